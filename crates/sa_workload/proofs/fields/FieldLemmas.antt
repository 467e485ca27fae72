-- What the words of a line are read as, and back: a field has one spelling.
use Rattle.std.proofs.Common.{◌≡◌, ℕ, zero, suc, ◌+◌, ◌^◌, ◌<◌, ◌≤◌, ◌&&◌, ◌⊎◌, true, false, cond, List, [], ◌∷◌, ◌++◌, length, get_or, Contains, Option, Some, None, Result, Ok, Err, codes, decimal, refl, sym, ap, ap₂, ◌∙◌, subst, inl, inr, arith, nat_le}
use Rattle.std.specs.Option.{is_some, option_map}
use Rattle.std.specs.Str.{bytes_eq}
use Rattle.std.proofs.lemmas.Bool.{false≢true, ltb-true, leb-true, le-leb, lt-ltb, and_parts}
use Rattle.std.proofs.lemmas.Fmt.{decimal_digit}
use Rattle.std.proofs.lemmas.List.{append-nil}
use Rattle.std.proofs.lemmas.Slice.Eq.{bytes_eq-Decides}
use Rattle.sa_lemmas.proofs.Results.{same-ok}
use Rattle.sa_text.specs.Number.{number_of}
use Rattle.sa_text.proofs.NumberOf.{reads_number, number_of-some}
use Rattle.sa_lemmas.proofs.Booleans.{if_either}
use Rattle.sa_workload.specs.Bad.{Field, Register, Number, within, declared, registers}
use Rattle.sa_workload.specs.Fields.{and_then, unless, or_cause, index_of, read_field, fields_at, at_end, order_cause, line_numbers}

-- what an answer is made of
pub same_err : {A : Type 0} (a b : ℕ) → (λ (r : Result A ℕ). r) (Err a) ≡ Err b → a ≡ b
same_err a b h = cc

pub and_then-ok : {A B : Type 0} (r : Result A ℕ) (f : A → Result B ℕ) (b : B) → and_then r f ≡ Ok b → (a : A) × (r ≡ Ok a) × (f a ≡ Ok b)
and_then-ok (Ok a) f b h = (a, refl, h)
and_then-ok (Err e) f b h = absurd cc

pub and_then-err : {A B : Type 0} (r : Result A ℕ) (f : A → Result B ℕ) (why : ℕ) → and_then r f ≡ Err why
    → (r ≡ Err why) ⊎ ((a : A) × (r ≡ Ok a) × (f a ≡ Err why))
and_then-err (Ok a) f why h = inr (a, refl, h)
and_then-err {A} {B} (Err e) f why h = inl (ap Err (same_err {A = B} e why h))

pub unless-ok : {A : Type 0} (o : Option ℕ) (r : Result A ℕ) (a : A) → unless o r ≡ Ok a → (o ≡ None) × (r ≡ Ok a)
unless-ok None r a h = (refl, h)
unless-ok (Some cause) r a h = absurd cc

or_cause-ok : {A : Type 0} (o : Option A) (cause : ℕ) (a : A) → or_cause o cause ≡ Ok a → o ≡ Some a
or_cause-ok None cause a h = absurd cc
or_cause-ok (Some b) cause a h = ap Some (same-ok b a h)

-- the place of a word
pub index_of-some : (word : List ℕ) (ks : List (List ℕ)) (n : ℕ) → index_of word ks ≡ Some n → (n < length ks) × (get_or ks n word ≡ word)
index_of-some word [] n h = absurd cc
index_of-some word (k ∷ ks) n h =
    elim (if_either (bytes_eq word k) (Some 0) (option_map (λ n. n + 1) (index_of word ks)) (Some n) h) [
      | inl here ↦ let e : n ≡ 0 = cc (here.1) in rw e (omega arith, sym ((bytes_eq-Decides word k).0 here.0))
      | inr later ↦ more (index_of word ks) (index_of-some word ks) later.1
    ]
  where
    more : (o : Option ℕ) → ((m : ℕ) → o ≡ Some m → (m < length ks) × (get_or ks m word ≡ word)) → option_map (λ n. n + 1) o ≡ Some n
        → (n < length (k ∷ ks)) × (get_or (k ∷ ks) n word ≡ word)
    more None rest e = absurd cc
    more (Some m) rest e = let plus : n ≡ m + 1 = cc e in let same : n ≡ suc m = omega arith in let r = rest m refl in rw same (omega (arith, r.0), r.1)

pub index_of-none : (word : List ℕ) (ks : List (List ℕ)) → index_of word ks ≡ None → ¬ Contains ks word
index_of-none word [] h c = absurd (omega (arith, c.1))
index_of-none word (k ∷ ks) h c =
    elim (if_either (bytes_eq word k) (Some 0) (option_map (λ n. n + 1) (index_of word ks)) None h) [
      | inl here ↦ absurd (cc (here.1))
      | inr later ↦ at c.0 c.1 c.2 later.0 (index_of-none word ks (none (index_of word ks) later.1))
    ]
  where
    none : (o : Option ℕ) → option_map (λ n. n + 1) o ≡ None → o ≡ None
    none None e = refl
    none (Some m) e = absurd cc

    at : (i : ℕ) → i < length (k ∷ ks) → get_or (k ∷ ks) i word ≡ word → bytes_eq word k ≡ false → ¬ Contains ks word → ⊥
    at zero l e other rest = false≢true (sym other ∙ (bytes_eq-Decides word k).1 (sym e))
    at (suc i) l e other rest = rest (i, omega arith, e)

-- a word among these, and one that is none of them
pub known_word : (ks : List (List ℕ)) (word : List ℕ) → Contains ks word → is_some (index_of word ks) ≡ true
known_word ks word c = at (index_of word ks) (index_of-none word ks)
  where
    at : (o : Option ℕ) → (o ≡ None → ¬ Contains ks word) → is_some o ≡ true
    at None f = absurd (f refl c)
    at (Some n) f = refl

pub contained : (ks : List (List ℕ)) (word : List ℕ) → is_some (index_of word ks) ≡ true → Contains ks word
contained ks word h = at (index_of word ks) (index_of-some word ks) h
  where
    at : (o : Option ℕ) → ((n : ℕ) → o ≡ Some n → (n < length ks) × (get_or ks n word ≡ word)) → is_some o ≡ true → Contains ks word
    at None f h = absurd (cc h)
    at (Some n) f h = let r = f n refl in (n, r.0, r.1)

-- how a field's number is spelled, and which numbers it has
abbrev pub spelled : Field → ℕ → List ℕ
spelled Register n = codes "r" ++ decimal n
spelled (Number test cause) n = decimal n

abbrev pub Passes : Field → ℕ → Type 0
Passes Register n = n < 8
Passes (Number test cause) n = (n < 2 ^ 64) × (test n ≡ true)

abbrev pub spelled_all : List Field → List ℕ → List (List ℕ)
spelled_all (f ∷ fs) (n ∷ ns) = spelled f n ∷ spelled_all fs ns
spelled_all _ _ = []

abbrev pub AllPass : List Field → List ℕ → Type 0
AllPass [] [] = Unit {0}
AllPass (f ∷ fs) (n ∷ ns) = Passes f n × AllPass fs ns
AllPass _ _ = ⊥

pub passes-within : (low high n : ℕ) → low ≤ n → n ≤ high → high < 2 ^ 64 → Passes (within low high) n
passes-within low high n l h small = (omega arith, ap (λ b. b && nat_le n high) (le-leb low n l) ∙ le-leb n high h)

pub passes-declared : (count n : ℕ) → n < count → count < 2 ^ 64 → Passes (declared count) n
passes-declared count n h small = (omega arith, lt-ltb n count h)

pub within-passes : (low high n : ℕ) → Passes (within low high) n → (low ≤ n) × (n ≤ high)
within-passes low high n p = let b = and_parts (nat_le low n) (nat_le n high) p.1 in (leb-true low n b.0, leb-true n high b.1)

pub declared-passes : (count n : ℕ) → Passes (declared count) n → n < count
declared-passes count n p = ltb-true n count p.1

-- the word of a register
pub register-spelled : (n : ℕ) (d : List ℕ) → n < 8 → get_or registers n d ≡ codes "r" ++ decimal n
register-spelled (suc (suc (suc (suc (suc (suc (suc (suc n)))))))) d h = absurd (omega arith)
register-spelled n d h = ap (λ ds. 114 ∷ ds) (sym (decimal_digit n (omega arith)))

register-read : (n : ℕ) → n < 8 → index_of (get_or registers n []) registers ≡ Some n
register-read (suc (suc (suc (suc (suc (suc (suc (suc n)))))))) h = absurd (omega arith)
register-read _ h = refl

-- a field is read from its spelling alone
pub read-spelled : (f : Field) (n : ℕ) → Passes f n → read_field f (spelled f n) ≡ Ok n
read-spelled Register n h = ap (λ w. or_cause (index_of w registers) 2) (sym (register-spelled n [] h)) ∙ ap (λ o. or_cause o 2) (register-read n h)
read-spelled (Number test cause) n h =
    ap (λ o. and_then (or_cause o 3) (λ n. cond (test n) (Ok n) (Err cause))) (reads_number n h.0) ∙ ap (λ b. cond b (Ok n) (Err cause)) h.1

pub read-ok : (f : Field) (word : List ℕ) (n : ℕ) → read_field f word ≡ Ok n → (word ≡ spelled f n) × Passes f n
read-ok Register word n h =
    let i = index_of-some word registers n (or_cause-ok (index_of word registers) 2 n h) in (sym i.1 ∙ register-spelled n word i.0, i.0)
read-ok (Number test cause) word n h =
    let got = and_then-ok (or_cause (number_of word) 3) (λ n. cond (test n) (Ok n) (Err cause)) n h in
    let s = number_of-some word got.0 (or_cause-ok (number_of word) 3 got.0 got.1) in
    elim (if_either (test got.0) (Ok got.0) (Err cause) (Ok n) got.2) [
      | inl right ↦ let same : got.0 ≡ n = same-ok got.0 n right.1 in
          (s.0 ∙ ap decimal same, (subst (λ (m : ℕ). m < 2 ^ 64) same s.1, ap test (sym same) ∙ right.0))
      | inr wrong ↦ absurd (cc (wrong.1))
    ]

-- all fields of a line; how they go on after what the first word is read as
abbrev pub behind : List Field → List (List ℕ) → Result ℕ ℕ → Result (List ℕ × List (List ℕ)) ℕ
behind fs words r =
    and_then {A = ℕ × List (List ℕ)} (and_then r (λ n. Ok (n, words))) (λ first. and_then (fields_at fs first.1) (λ others. Ok (first.0 ∷ others.0, others.1)))

pub fields-spelled : (fs : List Field) (ns : List ℕ) (rest : List (List ℕ)) → AllPass fs ns → fields_at fs (spelled_all fs ns ++ rest) ≡ Ok (ns, rest)
fields-spelled [] [] rest h = refl
fields-spelled [] (n ∷ ns) rest h = absurd h
fields-spelled (f ∷ fs) [] rest h = absurd h
fields-spelled (f ∷ fs) (n ∷ ns) rest h =
    ap (behind fs (spelled_all fs ns ++ rest)) (read-spelled f n h.0)
    ∙ ap (λ (r : Result (List ℕ × List (List ℕ)) ℕ). and_then r (λ others. Ok (n ∷ others.0, others.1))) (fields-spelled fs ns rest h.1)

abbrev IsSpelled : List Field → List (List ℕ) → List ℕ × List (List ℕ) → Type 0
IsSpelled fs words read = (words ≡ spelled_all fs read.0 ++ read.1) × AllPass fs read.0

pub fields-ok : (fs : List Field) (words : List (List ℕ)) (read : List ℕ × List (List ℕ)) → fields_at fs words ≡ Ok read
    → (words ≡ spelled_all fs read.0 ++ read.1) × AllPass fs read.0
fields-ok [] words read h = subst (IsSpelled [] words) (same-ok ([], words) read h) (refl, tt)
fields-ok (f ∷ fs) [] read h = absurd cc
fields-ok (f ∷ fs) (word ∷ words) read h = by (read_field f word) refl h (fields-ok fs words)
  where
    by : (r : Result ℕ ℕ) → read_field f word ≡ r → behind fs words r ≡ Ok read
        → ((others : List ℕ × List (List ℕ)) → fields_at fs words ≡ Ok others → IsSpelled fs words others) → IsSpelled (f ∷ fs) (word ∷ words) read
    by (Err cause) e h rest = absurd (cc h)
    by (Ok n) e h rest =
        let own = read-ok f word n e in
        let others = and_then-ok (fields_at fs words) (λ others. Ok (n ∷ others.0, others.1)) read h in
        let later = rest others.0 others.1 in
        subst (IsSpelled (f ∷ fs) (word ∷ words)) (same-ok (n ∷ others.0.0, others.0.1) read others.2)
        (ap₂ (λ (w : List ℕ) (ws : List (List ℕ)). w ∷ ws) own.0 later.0, (own.1, later.1))

pub all_long : (fs : List Field) (ns : List ℕ) → AllPass fs ns → (length ns ≡ length fs) × (length (spelled_all fs ns) ≡ length fs)
all_long [] [] h = (refl, refl)
all_long [] (n ∷ ns) h = absurd h
all_long (f ∷ fs) [] h = absurd h
all_long (f ∷ fs) (n ∷ ns) h = let r = all_long fs ns h.1 in (ap suc r.0, ap suc r.1)

-- the numbers of a whole line
pub line-spelled : (fs : List Field) (last : Option (List ℕ)) (ns : List ℕ) → AllPass fs ns → order_cause last ns ≡ None
    → line_numbers fs last (spelled_all fs ns) ≡ Ok ns
line-spelled fs last ns h o =
    ap (λ ws. line_numbers fs last ws) (sym (append-nil (spelled_all fs ns)))
    ∙ ap (λ (r : Result (List ℕ × List (List ℕ)) ℕ). and_then r (λ read. unless (order_cause last read.0) (unless (at_end read.1) (Ok read.0))))
    (fields-spelled fs ns [] h)
    ∙ ap (λ c. unless c (Ok ns)) o

at_end-none : (words : List (List ℕ)) → at_end words ≡ None → words ≡ []
at_end-none [] h = refl
at_end-none (word ∷ words) h = absurd cc

pub line-ok : (fs : List Field) (last : Option (List ℕ)) (words : List (List ℕ)) (ns : List ℕ) → line_numbers fs last words ≡ Ok ns
    → (words ≡ spelled_all fs ns) × AllPass fs ns × (order_cause last ns ≡ None)
line-ok fs last words ns h =
    let read = and_then-ok (fields_at fs words) (λ read. unless (order_cause last read.0) (unless (at_end read.1) (Ok read.0))) ns h in
    let order = unless-ok (order_cause last read.0.0) (unless (at_end read.0.1) (Ok read.0.0)) ns read.2 in
    let end = unless-ok (at_end read.0.1) (Ok read.0.0) ns order.1 in
    let same : read.0.0 ≡ ns = same-ok read.0.0 ns end.1 in
    let f = fields-ok fs words read.0 read.1 in
    subst (λ (ms : List ℕ). (words ≡ spelled_all fs ms) × AllPass fs ms × (order_cause last ms ≡ None)) same
    (f.0 ∙ ap (λ ws. spelled_all fs read.0.0 ++ ws) (at_end-none read.0.1 end.0) ∙ append-nil (spelled_all fs read.0.0), f.1, order.0)
