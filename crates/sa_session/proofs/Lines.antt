-- The bytes with which a line begins, and how what is read adds up.
use Rattle.std.proofs.Common.{◌≡◌, ℕ, suc, ◌+◌, List, [], ◌∷◌, ◌++◌, length, take, drop, Bool, true, false, Option, refl, sym, ap, ◌∙◌, append_assoc, append-nil, arith}
use Rattle.std.proofs.lemmas.Bool.Decides.{nat_tests}
use Rattle.std.proofs.lemmas.Grind.{flat_map-append}
use Rattle.std.proofs.KnownBytes.{Consumes-nil, Consumes-trans}
use Rattle.std.specs.Prelude.{◌==◌, ◌&&◌, nat_le, Ok, Err, if◌then◌else◌}
use Rattle.std.specs.Io.KnownBytes.{Consumes}
use Rattle.sa_base.specs.declared.refusal.Cause.TheVariants.{Missing, NotAscii, TooMany}
use Rattle.sa_lemmas.proofs.Results.{same-ok}
use Rattle.sa_lines_in.specs.declared.line.TheConstants.{LINE_LIMIT}
use Rattle.sa_lines_in.specs.Line.{line_len, len_from}
use Rattle.sa_lines_in.specs.Reading.{ReadsLine, is_decided}
use Rattle.sa_session.specs.Exchange.{lines_text, Hears}

-- some bytes begin with a line of this length, of which this many came before
record BeginsBy (seen len : ℕ) (bytes : List ℕ) : Type 0 where
  front : List ℕ
  rest : List ℕ
  are : bytes ≡ front ++ 10 ∷ rest
  size : seen + length front ≡ len

-- the first byte, by its tests
begins-by : (feed long good : Bool) (seen len b : ℕ) (bs : List ℕ) → (b == 10) ≡ feed
    → (len_from (seen + 1) bs ≡ Ok len → BeginsBy (seen + 1) len bs)
    → (if feed then Ok seen else (if long then Err TooMany else (if good then len_from (seen + 1) bs else Err NotAscii))) ≡ Ok len
    → BeginsBy seen len (b ∷ bs)
begins-by true long good seen len b bs feed rest is =
    let same : b ≡ 10 = grind (arith, nat_tests, feed) in
    let size : seen ≡ len = same-ok seen len is in
    record { front = []; rest = bs; are = ap (λ x. x ∷ bs) same; size = omega (arith, size) }
begins-by false true good seen len b bs feed rest is = absurd cc
begins-by false false true seen len b bs feed rest is =
    let more = rest is in
    record { front = b ∷ more.front; rest = more.rest; are = ap (λ xs. b ∷ xs) more.are; size = omega (arith, more.size) }
begins-by false false false seen len b bs feed rest is = absurd cc

begins-from : (seen len : ℕ) (bytes : List ℕ) → len_from seen bytes ≡ Ok len → BeginsBy seen len bytes
begins-from seen len [] is = absurd cc
begins-from seen len (b ∷ bs) is =
    begins-by (b == 10) (seen == LINE_LIMIT) (nat_le 32 b && nat_le b 126) seen len b bs refl (λ more. begins-from (seen + 1) len bs more) is

-- some bytes are open if they are open with more after them: the first byte, by its tests
open-by : (feed long good : Bool) (seen : ℕ) (bs more : List ℕ)
    → (len_from (seen + 1) (bs ++ more) ≡ Err Missing → is_decided (len_from (seen + 1) bs) ≡ false)
    → (if feed then Ok seen else (if long then Err TooMany else (if good then len_from (seen + 1) (bs ++ more) else Err NotAscii))) ≡ Err Missing
    → is_decided (if feed then Ok seen else (if long then Err TooMany else (if good then len_from (seen + 1) bs else Err NotAscii))) ≡ false
open-by true long good seen bs more rest is = absurd cc
open-by false true good seen bs more rest is = absurd cc
open-by false false true seen bs more rest is = rest is
open-by false false false seen bs more rest is = absurd cc

open-from : (seen : ℕ) (bytes more : List ℕ) → len_from seen (bytes ++ more) ≡ Err Missing → is_decided (len_from seen bytes) ≡ false
open-from seen [] more is = refl
open-from seen (b ∷ bs) more is =
    open-by (b == 10) (seen == LINE_LIMIT) (nat_le 32 b && nat_le b 126) seen bs more (λ rest. open-from (seen + 1) bs more rest) is

-- BYTES that are not decided with more after them are not decided alone.
pub open-before : (bytes more : List ℕ) → line_len (bytes ++ more) ≡ Err Missing → is_decided (line_len bytes) ≡ false
open-before bytes more is = open-from 0 bytes more is

take-front : (front rest : List ℕ) → take (length front) (front ++ rest) ≡ front
take-front [] rest = refl
take-front (b ∷ front) rest = ap (λ xs. b ∷ xs) (take-front front rest)

drop-front : (front : List ℕ) (b : ℕ) (rest : List ℕ) → drop (length front + 1) (front ++ b ∷ rest) ≡ rest
drop-front [] b rest = refl
drop-front (x ∷ front) b rest =
    let more : suc (length front) + 1 ≡ suc (length front + 1) = omega arith in
    ap (λ n. drop n (x ∷ (front ++ b ∷ rest))) more ∙ drop-front front b rest

-- BYTES that begin with a line are the line, its line feed, and what is left.
pub begins : (len : ℕ) (bytes : List ℕ) → line_len bytes ≡ Ok len → bytes ≡ (take len bytes ++ 10 ∷ []) ++ drop (len + 1) bytes
begins len bytes is =
    let by = begins-from 0 len bytes is in
    let size : len ≡ length by.front = omega (arith, by.size) in
    let front : take len bytes ≡ by.front =
    ap (λ n. take n bytes) size ∙ ap (λ bs. take (length by.front) bs) by.are ∙ take-front by.front (10 ∷ by.rest) in
    let rest : drop (len + 1) bytes ≡ by.rest =
    ap (λ n. drop (n + 1) bytes) size ∙ ap (λ bs. drop (length by.front + 1) bs) by.are ∙ drop-front by.front 10 by.rest in
    by.are
    ∙ sym (append_assoc by.front (10 ∷ []) by.rest)
    ∙ ap (λ bs. (bs ++ 10 ∷ []) ++ by.rest) (sym front)
    ∙ ap (λ bs. (take len bytes ++ 10 ∷ []) ++ bs) (sym rest)

-- NOTHING was read.
pub hears-none : (kept : List ℕ) (at : Option (List ℕ)) → Hears kept kept at at []
hears-none kept at = record { got = []; taken = Consumes-nil at; are = append-nil kept }

-- WHAT CAME was not used.
pub hears-got : (kept got later : List ℕ) (before after : Option (List ℕ)) → Consumes before after got → later ≡ kept ++ got
    → Hears kept later before after []
hears-got kept got later before after taken is = record { got = got; taken = taken; are = sym is }

-- A LINE was read.
pub hears-line : (kept later line : List ℕ) (before after : Option (List ℕ)) → ReadsLine kept later before after line
    → Hears kept later before after (line ∷ [])
hears-line kept later line before after reads = record {
  got = reads.got;
  taken = reads.taken;
  are = begins (length line) (kept ++ reads.got) reads.len
      ∙ ap (λ bs. (bs ++ 10 ∷ []) ++ drop (length line + 1) (kept ++ reads.got)) (sym reads.is)
      ∙ ap (λ bs. (line ++ 10 ∷ []) ++ bs) (sym reads.rest)
      ∙ ap (λ bs. bs ++ later) (sym (append-nil (line ++ 10 ∷ [])));
}

-- ONE after the other.
pub hears-on : (kept between later : List ℕ) (before at after : Option (List ℕ)) (lines more : List (List ℕ)) → Hears kept between before at lines
    → Hears between later at after more → Hears kept later before after (lines ++ more)
hears-on kept between later before at after lines more one two = record {
  got = one.got ++ two.got;
  taken = Consumes-trans before at after one.got two.got one.taken two.taken;
  are = sym (append_assoc kept one.got two.got)
      ∙ ap (λ bs. bs ++ two.got) one.are
      ∙ append_assoc (lines_text lines) between two.got
      ∙ ap (λ bs. lines_text lines ++ bs) two.are
      ∙ sym (append_assoc (lines_text lines) (lines_text more) later)
      ∙ ap (λ bs. bs ++ later) (sym (flat_map-append (λ line. line ++ 10 ∷ []) lines more));
}
