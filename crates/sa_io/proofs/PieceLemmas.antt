-- A text that is put piece by piece, and what is left of it where a write fails.
use Rattle.std.proofs.Common.{◌≡◌, ℕ, ◌+◌, min, List, [], ◌++◌, length, take, drop, Option, sym, ap, subst, ◌∙◌, append_assoc, append-nil, take-append-drop, arith}
use Rattle.std.proofs.lemmas.List.{take-append-le, take_min}
use Rattle.std.proofs.Math.Seq.{take-append-add}
use Rattle.std.proofs.KnownBytes.{Appends-trans, Appends-nil}
use Rattle.std.specs.Prelude.{Result, Ok, Err, OnOk, OnErr}
use Rattle.std.specs.Io.KnownBytes.{Appends}
use Rattle.sa_io.specs.Faults.{AppendsPrefix}
use Rattle.sa_io.specs.Pieces.{GoesOut}

-- a prefix of what comes after what was written is a prefix of the text
pub prefix-behind : (before at after : Option (List ℕ)) (text written piece behind : List ℕ)
    → text ≡ written ++ (piece ++ behind)
    → Appends before at written → AppendsPrefix at after piece
    → AppendsPrefix before after text
prefix-behind before at after text written piece behind whole taken cut =
    let k : ℕ = min cut.0 (length piece) in
    let P : List ℕ → Type 0 = λ v. Appends before after v in
    let end : take (length written + k) text ≡ written ++ take cut.0 piece =
    ap (λ v. take (length written + k) v) whole
    ∙ take-append-add written (piece ++ behind) k
    ∙ ap (λ v. written ++ v) (take-append-le k piece behind (omega arith) ∙ take_min cut.0 piece) in
    (length written + k, subst P (sym end) (Appends-trans before at after written (take cut.0 piece) taken cut.1))

-- nothing was put
pub out-none : (before : Option (List ℕ)) (waited : List ℕ) → GoesOut before before waited [] waited
out-none before waited = record { sent = []; taken = Appends-nil before; whole = append-nil waited }

-- one text and another after it
pub out-both : (before at after : Option (List ℕ)) (waited first between second waits : List ℕ)
    → GoesOut before at waited first between → GoesOut at after between second waits → GoesOut before after waited (first ++ second) waits
out-both before at after waited first between second waits one two = record {
  sent = one.sent ++ two.sent;
  taken = Appends-trans before at after one.sent two.sent one.taken two.taken;
  whole = sym (append_assoc waited first second)
      ∙ ap (λ v. v ++ second) one.whole
      ∙ append_assoc one.sent between second
      ∙ ap (λ v. one.sent ++ v) two.whole
      ∙ sym (append_assoc one.sent two.sent waits);
}

-- the rest goes out: all went out
pub out-all : (before at after : Option (List ℕ)) (text waits : List ℕ)
    → GoesOut before at [] text waits → Appends at after waits → Appends before after text
out-all before at after text waits out rest =
    let P : List ℕ → Type 0 = λ v. Appends before after v in
    subst P (sym out.whole) (Appends-trans before at after out.sent waits out.taken rest)

-- a write fails at a text after another one, and more would have come
pub out-cut : (before at after : Option (List ℕ)) (waited first between second more : List ℕ)
    → GoesOut before at waited first between → AppendsPrefix at after (between ++ second)
    → AppendsPrefix before after (waited ++ (first ++ (second ++ more)))
out-cut before at after waited first between second more out cut =
    let whole : waited ++ (first ++ (second ++ more)) ≡ out.sent ++ ((between ++ second) ++ more) =
    sym (append_assoc waited first (second ++ more))
    ∙ ap (λ v. v ++ (second ++ more)) out.whole
    ∙ append_assoc out.sent between (second ++ more)
    ∙ ap (λ v. out.sent ++ v) (sym (append_assoc between second more)) in
    prefix-behind before at after (waited ++ (first ++ (second ++ more))) out.sent (between ++ second) more whole out.taken cut

-- a write fails as the rest goes out
pub out-end_cut : (before at after : Option (List ℕ)) (text waits : List ℕ)
    → GoesOut before at [] text waits → AppendsPrefix at after waits → AppendsPrefix before after text
out-end_cut before at after text waits out cut =
    prefix-behind before at after text out.sent waits [] (out.whole ∙ ap (λ v. out.sent ++ v) (sym (append-nil waits))) out.taken cut

-- what was put from the beginning is whole once the rest has gone out, or is cut
pub all-ends : {T E : Type 0} (before at after : Option (List ℕ)) (text waits : List ℕ) (result : Result T E) → GoesOut before at [] text waits
    → OnOk result (Appends at after waits) → OnErr result (AppendsPrefix at after waits)
    → OnOk result (Appends before after text) × OnErr result (AppendsPrefix before after text)
all-ends before at after text waits (Ok x) out ok err = (out-all before at after text waits out ok, tt)
all-ends before at after text waits (Err e) out ok err = (tt, out-end_cut before at after text waits out err)

-- what waits is filled up to a piece from the front of the rest
pub filled-up : (text sent waiting rest front behind piece : List ℕ) (n : ℕ)
    → text ≡ sent ++ (waiting ++ rest) → front ≡ take n rest → behind ≡ drop n rest
    → piece ≡ waiting ++ front → text ≡ sent ++ (piece ++ behind)
filled-up text sent waiting rest front behind piece n whole is_front is_behind is_piece =
    let joined : rest ≡ front ++ behind =
    sym (take-append-drop n rest) ∙ ap (λ v. v ++ drop n rest) (sym is_front) ∙ ap (λ v. front ++ v) (sym is_behind) in
    whole
    ∙ ap (λ v. sent ++ (waiting ++ v)) joined
    ∙ ap (λ v. sent ++ v) (sym (append_assoc waiting front behind) ∙ ap (λ v. v ++ behind) (sym is_piece))
