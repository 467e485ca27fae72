-- A trace text that goes out in pieces.
use Rattle.std.proofs.Common.{◌≡◌, ℕ, true, false, arith, List, [], ◌∷◌, ◌++◌, take, drop, length, sym, ap, ◌∙◌, subst, take-append-drop, append-nil, append_assoc, Option, Result, Ok, Err}
use Rattle.std.specs.Prelude.{OnOk, OnErr, ◌==◌}
use Rattle.std.specs.List.{flat_map}
use Rattle.std.proofs.lemmas.Bool.Decides.{nat_tests}
use Rattle.std.proofs.lemmas.Grind.{flat_map-append}
use Rattle.sa_base.specs.declared.record.Item.{Item}
use Rattle.sa_base.specs.declared.record.End.{End}
use Rattle.sa_io.specs.Faults.{AppendsPrefix}
use Rattle.sa_io.specs.Pieces.{GoesOut}
use Rattle.sa_io.proofs.PieceLemmas.{out-both, out-cut, out-none}
use Rattle.sa_trace.specs.TraceText.{line_of, last_line_of, trace_text}

-- the lines of the first items, and those after them
lines-split : (items : List Item) (n : ℕ) (lines : List ℕ) → lines ≡ flat_map line_of (take n items)
    → flat_map line_of items ≡ lines ++ flat_map line_of (drop n items)
lines-split items n lines is =
    sym (ap (flat_map line_of) (take-append-drop n items))
    ∙ flat_map-append line_of (take n items) (drop n items)
    ∙ ap (λ v. v ++ flat_map line_of (drop n items)) (sym is)

-- what goes out of a list of items: these lines went out, and those of the rest are still to come
pub record AreOut (before after : Option (List ℕ)) (waited : List ℕ) (items rest : List Item) (waits : List ℕ) : Type 0 where
  pub lines : List ℕ
  pub whole : flat_map line_of items ≡ lines ++ flat_map line_of rest
  pub out : GoesOut before after waited lines waits

-- some more lines go out after those so far, or are cut
module _ (before at after : Option (List ℕ)) (waited : List ℕ) (items rest : List Item) (between more : List ℕ) (n : ℕ)
    (is : more ≡ flat_map line_of (take n rest)) (so_far : AreOut before at waited items rest between) where
  abbrev whole : flat_map line_of items ≡ so_far.lines ++ (more ++ flat_map line_of (drop n rest))
  whole = so_far.whole ∙ ap (λ v. so_far.lines ++ v) (lines-split rest n more is)

  pub lines-out : (behind : List Item) (waits : List ℕ) → behind ≡ drop n rest → GoesOut at after between more waits
      → AreOut before after waited items behind waits
  lines-out behind waits back out = record {
    lines = so_far.lines ++ more;
    whole = whole ∙ sym (append_assoc so_far.lines more (flat_map line_of (drop n rest))) ∙ ap (λ v. (so_far.lines ++ more) ++ flat_map line_of v) (sym back);
    out = out-both before at after waited so_far.lines between more waits so_far.out out;
  }

  pub lines-stopped : AppendsPrefix at after (between ++ more) → AppendsPrefix before after (waited ++ flat_map line_of items)
  lines-stopped cut =
      subst (λ (v : List ℕ). AppendsPrefix before after (waited ++ v)) (sym whole)
      (out-cut before at after waited so_far.lines between more (flat_map line_of (drop n rest)) so_far.out cut)

-- where no rest is left, all went out
pub lines-all : (before after : Option (List ℕ)) (waited : List ℕ) (items rest : List Item) (waits : List ℕ) → true ≡ (length rest == 0)
    → AreOut before after waited items rest waits → GoesOut before after waited (flat_map line_of items) waits
lines-all before after waited items (x ∷ rest) waits none so_far =
    let no : (length (x ∷ rest) == 0) ≡ false = grind (arith, nat_tests) in
    absurd (let z : true ≡ false = none ∙ no in cc)
lines-all before after waited items [] waits none so_far =
    subst (λ (v : List ℕ). GoesOut before after waited v waits) (sym (so_far.whole ∙ append-nil so_far.lines)) so_far.out

-- the last line goes out after all others, or it is cut, or others are
module _ (before at after : Option (List ℕ)) (waited between : List ℕ) (items : List Item) (end : End) (events : ℕ) where
  pub run-out : (line waits : List ℕ) → line ≡ last_line_of items end events → GoesOut before at waited (flat_map line_of items) between
      → GoesOut at after between line waits → GoesOut before after waited (trace_text items end events) waits
  unfolding trace_text
  run-out line waits is out more =
      subst (λ (v : List ℕ). GoesOut before after waited v waits) (ap (λ v. flat_map line_of items ++ v) is)
      (out-both before at after waited (flat_map line_of items) between line waits out more)

  pub run-cut : (line : List ℕ) → line ≡ last_line_of items end events → GoesOut before at waited (flat_map line_of items) between
      → AppendsPrefix at after (between ++ line) → AppendsPrefix before after (waited ++ trace_text items end events)
  unfolding trace_text
  run-cut line is out cut =
      subst (λ (v : List ℕ). AppendsPrefix before after (waited ++ (flat_map line_of items ++ v))) (append-nil line ∙ is)
      (out-cut before at after waited (flat_map line_of items) between line [] out cut)

  -- the same where the write of the last line says which it is
  pub run-ends : {T E : Type 0} (line waits : List ℕ) (result : Result T E) → line ≡ last_line_of items end events
      → GoesOut before at waited (flat_map line_of items) between
      → OnOk result (GoesOut at after between line waits) → OnErr result (AppendsPrefix at after (between ++ line))
      → OnOk result (GoesOut before after waited (trace_text items end events) waits)
      × OnErr result (AppendsPrefix before after (waited ++ trace_text items end events))
  run-ends line waits (Ok x) is out ok err = (run-out line waits is out ok, tt)
  run-ends line waits (Err e) is out ok err = (tt, run-cut line is out err)

-- where lines are cut, so is the whole text
pub lines-cut : (before after : Option (List ℕ)) (waited : List ℕ) (items : List Item) (end : End) (events : ℕ)
    → AppendsPrefix before after (waited ++ flat_map line_of items) → AppendsPrefix before after (waited ++ trace_text items end events)
unfolding trace_text
lines-cut before after waited items end events cut =
    subst (λ (v : List ℕ). AppendsPrefix before after (waited ++ v)) (sym (append_assoc [] (flat_map line_of items) (last_line_of items end events)))
    (out-cut before before after waited [] waited (flat_map line_of items) (last_line_of items end events) (out-none before waited) cut)
