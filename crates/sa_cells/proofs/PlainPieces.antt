-- Pieces of texts hold no sign of markup.
use Rattle.std.proofs.Common.{◌≡◌, ℕ, zero, suc, ◌+◌, ◌<◌, ◌/◌, ◌%◌, Bool, true, false, not, ◌&&◌, eqb, cond, List, [], ◌∷◌, ◌++◌, Option, Some, None, refl, ap, arith}
use Rattle.std.specs.Prelude.{codes, decimal, ◌==◌, nat_lt, if◌then◌else◌}
use Rattle.std.specs.Fmt.{digits, digits_onto, digit_glyph}
use Rattle.std.specs.List.{flat_map}
use Rattle.std.proofs.Math.Nat.{mod-lt}
use Rattle.std.proofs.lemmas.Bool.{and_from}
use Rattle.std.proofs.lemmas.Bool.Decides.{nat_tests}
use Rattle.sa_base.specs.declared.number.SpaceNo.{SpaceNo}
use Rattle.sa_base.specs.declared.number.ThreadNo.{ThreadNo}
use Rattle.sa_base.specs.declared.number.ActNo.{ActNo}
use Rattle.sa_svg.specs.Laws.{is_plain}
use Rattle.sa_svg.proofs.Plain.{plain-append, plain-digit}
use Rattle.sa_cells.specs.Pieces.{one, two, three, numbered, space_if, act_if, a_space, a_thread, and_thread}

plain-cons : (b : ℕ) (bs : List ℕ) → (not (eqb b 60) && not (eqb b 62) && not (eqb b 38)) ≡ true → is_plain bs ≡ true → is_plain (b ∷ bs) ≡ true
plain-cons b bs p q = and_from (not (eqb b 60) && not (eqb b 62) && not (eqb b 38)) (is_plain bs) p q

-- a digit, and a number
glyph-is : (d : ℕ) → d < 10 → digit_glyph false d ≡ 48 + d
glyph-is d low = let yes : nat_lt d 10 ≡ true = grind (arith, nat_tests) in ap (λ b. cond b (48 + d) (87 + d)) yes

plain-glyph : (n : ℕ) → (let d = digit_glyph false (n % 10) in not (eqb d 60) && not (eqb d 62) && not (eqb d 38)) ≡ true
plain-glyph n =
    let low : n % 10 < 10 = mod-lt n (omega arith) in
    let is = glyph-is (n % 10) low in
    plain-digit (digit_glyph false (n % 10)) (omega (arith, is)) (omega (arith, is, low))

-- a choice
pub plain-choice : (b : Bool) (xs ys : List ℕ) → is_plain xs ≡ true → is_plain ys ≡ true → is_plain (if b then xs else ys) ≡ true
plain-choice true xs ys p q = p
plain-choice false xs ys p q = q

plain-onto : (k n : ℕ) (acc : List ℕ) → is_plain acc ≡ true → is_plain (digits_onto k 10 false n acc) ≡ true
plain-onto zero n acc p = p
plain-onto (suc k) n acc p =
    let more = plain-cons (digit_glyph false (n % 10)) acc (plain-glyph n) p in
    plain-choice (n / 10 == 0) (digit_glyph false (n % 10) ∷ acc) (digits_onto k 10 false (n / 10) (digit_glyph false (n % 10) ∷ acc)) more
    (plain-onto k (n / 10) (digit_glyph false (n % 10) ∷ acc) more)

pub plain-decimal : (n : ℕ) → is_plain (decimal n) ≡ true
unfolding digits
plain-decimal n = plain-onto 64 n [] refl

-- numbers between words
pub plain-numbered : (word : List ℕ) (n : ℕ) → is_plain word ≡ true → is_plain (numbered word n) ≡ true
plain-numbered word n p = plain-append word (decimal n) p (plain-decimal n)

pub plain-one : (before : List ℕ) (n : ℕ) (behind : List ℕ) → is_plain before ≡ true → is_plain behind ≡ true → is_plain (one before n behind) ≡ true
unfolding one
plain-one before n behind p q = plain-append (before ++ decimal n) behind (plain-numbered before n p) q

pub plain-two :
    (before : List ℕ) (n : ℕ) (between : List ℕ) (m : ℕ) (behind : List ℕ) → is_plain before ≡ true → is_plain between ≡ true → is_plain behind ≡ true
    → is_plain (two before n between m behind) ≡ true
unfolding two
plain-two before n between m behind p q r =
    plain-append (one before n between ++ decimal m) behind (plain-append (one before n between) (decimal m) (plain-one before n between p q) (plain-decimal m)) r

pub plain-three :
    (before : List ℕ) (n : ℕ) (between : List ℕ) (m : ℕ) (middle : List ℕ) (k : ℕ) (behind : List ℕ)
    → is_plain before ≡ true → is_plain between ≡ true → is_plain middle ≡ true → is_plain behind ≡ true
    → is_plain (three before n between m middle k behind) ≡ true
unfolding three
plain-three before n between m middle k behind p q r s =
    plain-append (two before n between m middle ++ decimal k) behind
    (plain-append (two before n between m middle) (decimal k) (plain-two before n between m middle p q r) (plain-decimal k)) s

-- pieces of each of a list
pub plain-each : {X : Type 0} (f : X → List ℕ) → ((x : X) → is_plain (f x) ≡ true) → (xs : List X) → is_plain (flat_map f xs) ≡ true
plain-each f p [] = refl
plain-each f p (x ∷ xs) = plain-append (f x) (flat_map f xs) (p x) (plain-each f p xs)

-- what may be absent
pub plain-space : (s : Option SpaceNo) → is_plain (space_if s) ≡ true
plain-space None = refl
plain-space (Some s) = plain-decimal s.0

pub plain-act : (a : Option ActNo) → is_plain (act_if a) ≡ true
plain-act None = refl
plain-act (Some a) = plain-decimal a.0

pub plain-a-space : (s : Option SpaceNo) → is_plain (a_space s) ≡ true
unfolding a_space
plain-a-space None = refl
plain-a-space (Some s) = plain-numbered (codes "space ") s.0 refl

pub plain-a-thread : (t : Option ThreadNo) → is_plain (a_thread t) ≡ true
unfolding a_thread
plain-a-thread None = refl
plain-a-thread (Some t) = plain-numbered (codes "thread ") t.0 refl

pub plain-and-thread : (t : Option ThreadNo) → is_plain (and_thread t) ≡ true
unfolding and_thread
plain-and-thread None = refl
plain-and-thread (Some t) = plain-numbered (codes ", thread ") t.0 refl
