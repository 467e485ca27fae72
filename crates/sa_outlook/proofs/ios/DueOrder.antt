-- The order in which I/Os are due: which of them is first in it, and what it becomes where one begins or is over.
use Rattle.std.proofs.Common.{◌≡◌, ℕ, ◌+◌, ◌<◌, ◌≤◌, Bool, true, false, ◌&&◌, ◌||◌, cond, eqb, ltb, leb, Option, Some, None, List, [], ◌∷◌, ◌++◌, refl, sym, ap, subst, ◌∙◌, ◌⊎◌, inl, inr, arith}
use Rattle.std.proofs.lemmas.Bool.{cond-true, cond-false, eq-eqb, ne_eqb, le-leb, lt-leb, lt-ltb, le-ltb, leb-true, leb-false}
use Rattle.std.proofs.Math.Bool.{and-false}
use Rattle.sa_devices.specs.Ios.{Io, is_sooner, sooner_of, due_of, io_at, without}
use Rattle.sa_outlook.specs.DueOrder.{put_first, in_order}

-- an I/O that began after all of these, among them
abbrev pub put_last : Io → List Io → List Io
put_last io [] = io ∷ []
put_last io (x ∷ xs) = cond (ltb io.ends x.ends) (io ∷ x ∷ xs) (x ∷ put_last io xs)

-- the first of those in order, where it is due at the event
abbrev pub first_due : ℕ → List Io → Option Io
first_due e [] = None
first_due e (x ∷ xs) = cond (leb x.ends e) (Some x) None

-- I/Os stand in the order of their numbers, from `low` on and below `high`
abbrev pub AreNumbered : ℕ → ℕ → List Io → Type 0
AreNumbered low high [] = low ≤ high
AreNumbered low high (io ∷ ios) = (low ≤ io.number) × AreNumbered (io.number + 1) high ios

-- which of two numbers is the greater
pub order : (a b : ℕ) → (a ≤ b) ⊎ (b < a)
order a b = go (leb a b) refl
  where
    go : (t : Bool) → leb a b ≡ t → (a ≤ b) ⊎ (b < a)
    go true e = inl (leb-true a b e)
    go false e = inr (leb-false a b e)

pub first-le : (io x : Io) (xs : List Io) → io.ends ≤ x.ends → put_first io (x ∷ xs) ≡ io ∷ x ∷ xs
first-le io x xs h = cond-true (leb io.ends x.ends) (io ∷ x ∷ xs) (x ∷ put_first io xs) (le-leb io.ends x.ends h)

pub first-gt : (io x : Io) (xs : List Io) → x.ends < io.ends → put_first io (x ∷ xs) ≡ x ∷ put_first io xs
first-gt io x xs h = cond-false (leb io.ends x.ends) (io ∷ x ∷ xs) (x ∷ put_first io xs) (lt-leb io.ends x.ends h)

pub last-lt : (io x : Io) (xs : List Io) → io.ends < x.ends → put_last io (x ∷ xs) ≡ io ∷ x ∷ xs
last-lt io x xs h = cond-true (ltb io.ends x.ends) (io ∷ x ∷ xs) (x ∷ put_last io xs) (lt-ltb io.ends x.ends h)

pub last-ge : (io x : Io) (xs : List Io) → x.ends ≤ io.ends → put_last io (x ∷ xs) ≡ x ∷ put_last io xs
last-ge io x xs h = cond-false (ltb io.ends x.ends) (io ∷ x ∷ xs) (x ∷ put_last io xs) (le-ltb io.ends x.ends h)

-- one that began first and one that began last can be put in either order
swap : (j io : Io) (xs : List Io) → put_first j (put_last io xs) ≡ put_last io (put_first j xs)
swap j io [] = elim (order j.ends io.ends) [
  | inl h ↦ first-le j io [] h ∙ sym (last-ge io j [] h)
  | inr h ↦ first-gt j io [] h ∙ sym (last-lt io j [] h)
]
swap j io (x ∷ xs) = elim (order x.ends io.ends) [
  | inl late ↦ ap (put_first j) (last-ge io x xs late) ∙ elim (order j.ends x.ends) [
    | inl h ↦
        let z : j.ends ≤ io.ends = omega arith in
        first-le j x (put_last io xs) h ∙ ap (λ (ys : List Io). j ∷ ys) (sym (last-ge io x xs late))
        ∙ sym (last-ge io j (x ∷ xs) z) ∙ sym (ap (put_last io) (first-le j x xs h))
    | inr h ↦
        first-gt j x (put_last io xs) h ∙ ap (λ (ys : List Io). x ∷ ys) (swap j io xs)
        ∙ sym (last-ge io x (put_first j xs) late) ∙ sym (ap (put_last io) (first-gt j x xs h))
  ]
  | inr nameless_io ↦ ap (put_first j) (last-lt io x xs nameless_io) ∙ elim (order j.ends x.ends) [
    | inl h ↦ elim (order j.ends io.ends) [
      | inl y ↦
          first-le j io (x ∷ xs) y ∙ ap (λ (ys : List Io). j ∷ ys) (sym (last-lt io x xs nameless_io))
          ∙ sym (last-ge io j (x ∷ xs) y) ∙ sym (ap (put_last io) (first-le j x xs h))
      | inr y ↦
          first-gt j io (x ∷ xs) y ∙ ap (λ (ys : List Io). io ∷ ys) (first-le j x xs h)
          ∙ sym (last-lt io j (x ∷ xs) y) ∙ sym (ap (put_last io) (first-le j x xs h))
    ]
    | inr h ↦
        let z : io.ends < j.ends = omega arith in
        first-gt j io (x ∷ xs) z ∙ ap (λ (ys : List Io). io ∷ ys) (first-gt j x xs h)
        ∙ sym (last-lt io x (put_first j xs) nameless_io) ∙ sym (ap (put_last io) (first-gt j x xs h))
  ]
]

-- an I/O begins
pub order-begun : (io : Io) (ios : List Io) → in_order (ios ++ io ∷ []) ≡ put_last io (in_order ios)
order-begun io [] = refl
order-begun io (j ∷ ios) = ap (put_first j) (order-begun io ios) ∙ swap j io (in_order ios)

-- what is first in order comes first in the list, or is one of the others
pub head-cases : (io : Io) (xs ys : List Io) (d : Io) → put_first io xs ≡ d ∷ ys
    → ((d ≡ io) × (ys ≡ xs)) ⊎ ((rest : List Io) × (xs ≡ d ∷ rest) × (ys ≡ put_first io rest) × (d.ends < io.ends))
head-cases io [] ys d is = inl (cc, cc)
head-cases io (x ∷ xs) ys d is = elim (order io.ends x.ends) [
  | inl h ↦
      let e : io ∷ x ∷ xs ≡ d ∷ ys = sym (first-le io x xs h) ∙ is in
      inl (cc, cc)
  | inr h ↦
      let e : x ∷ put_first io xs ≡ d ∷ ys = sym (first-gt io x xs h) ∙ is in
      let same : d ≡ x = cc in
      inr (xs, ap (λ (z : Io). z ∷ xs) (sym same), cc, subst (λ (z : Io). z.ends < io.ends) (sym same) h)
]

-- what is first in order has no number below those of the list
pub head-number : (low high : ℕ) (ios ys : List Io) (d : Io) → AreNumbered low high ios → in_order ios ≡ d ∷ ys → low ≤ d.number
head-number low high [] ys d num is = absurd cc
head-number low high (io ∷ ios) ys d num is = elim (head-cases io (in_order ios) ys d is) [
  | inl h ↦ subst (λ (z : Io). low ≤ z.number) (sym h.0) num.0
  | inr h ↦
      let z = head-number (io.number + 1) high ios h.0 d num.1 h.1 in
      let y = num.0 in
      omega arith
]

-- the I/O that is due is the first in order
pub due-first : (e low high : ℕ) (ios : List Io) → AreNumbered low high ios → due_of e ios ≡ first_due e (in_order ios)
due-first e low high [] num = refl
due-first e low high (io ∷ ios) num = go (due-first e (io.number + 1) high ios num.1) (in_order ios) refl
  where
    was : (o : Option Io) → due_of e ios ≡ o → due_of e (io ∷ ios) ≡ cond (leb io.ends e) (Some (sooner_of io o)) o
    was o is = ap (λ (x : Option Io). cond (leb io.ends e) (Some (sooner_of io x)) x) is

    go : due_of e ios ≡ first_due e (in_order ios) → (xs : List Io) → in_order ios ≡ xs → due_of e (io ∷ ios) ≡ first_due e (put_first io (in_order ios))
    go rest [] is =
        was None (rest ∙ ap (first_due e) is) ∙ sym (ap (λ (ys : List Io). first_due e (put_first io ys)) is)
    go rest (x ∷ xs) is =
        let later = head-number (io.number + 1) high ios xs x num.1 is in
        let known : due_of e ios ≡ first_due e (x ∷ xs) = rest ∙ ap (first_due e) is in
        let now : first_due e (put_first io (in_order ios)) ≡ first_due e (put_first io (x ∷ xs)) = ap (λ (ys : List Io). first_due e (put_first io ys)) is in
        elim (order io.ends x.ends) [
          | inl h ↦
              let shape : first_due e (put_first io (x ∷ xs)) ≡ cond (leb io.ends e) (Some io) None = ap (first_due e) (first-le io x xs h) in
              elim (order x.ends e) [
                | inl d ↦
                    let z : io.ends ≤ e = omega arith in
                    was (Some x) (known ∙ cond-true (leb x.ends e) (Some x) None (le-leb x.ends e d))
                    ∙ cond-true (leb io.ends e) (Some (sooner_of io (Some x))) (Some x) (le-leb io.ends e z)
                    ∙ ap Some (not-sooner x h later)
                    ∙ sym (now ∙ shape ∙ cond-true (leb io.ends e) (Some io) None (le-leb io.ends e z))
                | inr d ↦
                    was None (known ∙ cond-false (leb x.ends e) (Some x) None (lt-leb x.ends e d))
                    ∙ sym (now ∙ shape)
              ]
          | inr h ↦
              let shape : first_due e (put_first io (x ∷ xs)) ≡ first_due e (x ∷ xs) = ap (first_due e) (first-gt io x xs h) in
              elim (order io.ends e) [
                | inl d ↦
                    let z : x.ends ≤ e = omega arith in
                    let here = cond-true (leb x.ends e) (Some x) None (le-leb x.ends e z) in
                    was (Some x) (known ∙ here)
                    ∙ cond-true (leb io.ends e) (Some (sooner_of io (Some x))) (Some x) (le-leb io.ends e d)
                    ∙ ap Some (sooner x h) ∙ sym (now ∙ shape ∙ here)
                | inr d ↦
                    was (first_due e (x ∷ xs)) known
                    ∙ cond-false (leb io.ends e) (Some (sooner_of io (first_due e (x ∷ xs)))) (first_due e (x ∷ xs)) (lt-leb io.ends e d)
                    ∙ sym (now ∙ shape)
              ]
        ]
      where
        sooner : (y : Io) → y.ends < io.ends → sooner_of io (Some y) ≡ y
        sooner y h = cond-true (is_sooner y io) y io (ap (λ (t : Bool). t || (eqb y.ends io.ends && ltb y.number io.number)) (lt-ltb y.ends io.ends h))

        not-sooner : (y : Io) → io.ends ≤ y.ends → io.number + 1 ≤ y.number → sooner_of io (Some y) ≡ io
        not-sooner y h later =
            let a : ltb y.ends io.ends ≡ false = le-ltb y.ends io.ends h in
            let b : ltb y.number io.number ≡ false = le-ltb y.number io.number (omega arith) in
            cond-false (is_sooner y io) y io
            (ap (λ (t : Bool). t || (eqb y.ends io.ends && ltb y.number io.number)) a
            ∙ ap (λ (t : Bool). eqb y.ends io.ends && t) b ∙ and-false (eqb y.ends io.ends))

-- the first in order is found by its number
pub first-at : (low high : ℕ) (ios ys : List Io) (d : Io) → AreNumbered low high ios → in_order ios ≡ d ∷ ys → io_at d.number ios ≡ Some d
first-at low high [] ys d num is = absurd cc
first-at low high (io ∷ ios) ys d num is = elim (head-cases io (in_order ios) ys d is) [
  | inl h ↦
      cond-true (eqb io.number d.number) (Some io) (io_at d.number ios) (eq-eqb io.number d.number (ap (λ (z : Io). z.number) (sym h.0)))
      ∙ ap Some (sym h.0)
  | inr h ↦
      let z = head-number (io.number + 1) high ios h.0 d num.1 h.1 in
      cond-false (eqb io.number d.number) (Some io) (io_at d.number ios) (ne_eqb io.number d.number (λ s. omega arith))
      ∙ first-at (io.number + 1) high ios h.0 d num.1 h.1
]

-- the first in order is over
pub order-over : (low high : ℕ) (ios ys : List Io) (d : Io) → AreNumbered low high ios → in_order ios ≡ d ∷ ys → in_order (without d.number ios) ≡ ys
order-over low high [] ys d num is = absurd cc
order-over low high (io ∷ ios) ys d num is = elim (head-cases io (in_order ios) ys d is) [
  | inl h ↦
      ap in_order (cond-true (eqb io.number d.number) ios (io ∷ without d.number ios) (eq-eqb io.number d.number (ap (λ (z : Io). z.number) (sym h.0))))
      ∙ sym h.1
  | inr h ↦
      let z = head-number (io.number + 1) high ios h.0 d num.1 h.1 in
      ap in_order (cond-false (eqb io.number d.number) ios (io ∷ without d.number ios) (ne_eqb io.number d.number (λ s. omega arith)))
      ∙ ap (put_first io) (order-over (io.number + 1) high ios h.0 d num.1 h.1) ∙ sym h.2
]

-- numbers go on
pub numbered-later : (low lower high : ℕ) (ios : List Io) → lower ≤ low → AreNumbered low high ios → AreNumbered lower high ios
numbered-later low lower high [] less num = omega arith
numbered-later low lower high (io ∷ ios) less num = (let z = num.0 in omega arith, num.1)

pub numbered-begun : (low : ℕ) (io : Io) (ios : List Io) → AreNumbered low io.number ios → AreNumbered low (io.number + 1) (ios ++ io ∷ [])
numbered-begun low io [] num = (num, omega arith)
numbered-begun low io (j ∷ ios) num = (num.0, numbered-begun (j.number + 1) io ios num.1)

pub numbered-over : (n low high : ℕ) (ios : List Io) → AreNumbered low high ios → AreNumbered low high (without n ios)
numbered-over n low high [] num = num
numbered-over n low high (io ∷ ios) num = go (numbered-over n (io.number + 1) high ios num.1) (eqb io.number n)
  where
    go : AreNumbered (io.number + 1) high (without n ios) → (b : Bool) → AreNumbered low high (cond b ios (io ∷ without n ios))
    go rest true = numbered-later (io.number + 1) low high ios (let z = num.0 in omega arith) num.1
    go rest false = (num.0, rest)
