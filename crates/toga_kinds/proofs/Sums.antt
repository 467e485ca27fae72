-- The kinds add up to the turns, and so do the processors.
use Rattle.std.proofs.Common.{◌≡◌, ℕ, zero, suc, ◌+◌, ◌<◌, ◌≤◌, ◌==◌, ◌&&◌, Bool, true, false, List, [], ◌∷◌, length, refl, sym, ◌∙◌, ap, arith}
use Rattle.std.specs.Prelude.{cond, All}
use Rattle.std.specs.List.{sum_by}
use Rattle.std.proofs.lemmas.Bool.{eqb-true, ne_eqb, eq-eqb}
use Rattle.std.proofs.lemmas.List.Sums.{sum_by-cons}
use Rattle.sa_base.specs.declared.number.ProcNo.{ProcNo}
use Rattle.toga_kinds.specs.declared.kind.Kind.{Kind}
use Rattle.toga_kinds.specs.declared.kind.Kind.TheVariants.{Unowned, Idle, Spinning, Instructions, Package, Kernel}
use Rattle.toga_kinds.specs.declared.kind.Turn.{Turn}
use Rattle.toga_kinds.specs.Kinds.{is_on, is_of_kind, is_same, counts_here, events_on, over_kinds, over_processors, KindsAddUpOn, KindsAddUp, ProcessorsAddUp}

-- a kind is one of six
one-kind : (k : Kind) → over_kinds (λ j. cond (is_same k j) 1 0) ≡ 1
one-kind Unowned = refl
one-kind Idle = refl
one-kind Spinning = refl
one-kind Instructions = refl
one-kind Package = refl
one-kind Kernel = refl

one-here : (b : Bool) (k : Kind) → over_kinds (λ j. cond (b && is_same k j) 1 0) ≡ cond b 1 0
one-here true k = one-kind k
one-here false k = refl

-- sums of six numbers
six :
    (a b c d e f g h i j k l u v w x y z : ℕ) → u ≡ a + g → v ≡ b + h → w ≡ c + i → x ≡ d + j → y ≡ e + k → z ≡ f + l
    → u + v + w + x + y + z ≡ (a + b + c + d + e + f) + (g + h + i + j + k + l)
six a b c d e f g h i j k l u v w x y z p q r s t o = omega (arith, p, q, r, s, t, o)

more : (f : Turn → Kind → ℕ) (t : Turn) (ts : List Turn)
    → over_kinds (λ k. sum_by (λ x. f x k) (t ∷ ts)) ≡ over_kinds (f t) + over_kinds (λ k. sum_by (λ x. f x k) ts)
more f t ts =
    let step = λ (k : Kind). sum_by-cons (λ (x : Turn). f x k) t ts in
    six (f t Unowned) (f t Idle) (f t Spinning) (f t Instructions) (f t Package) (f t Kernel) _ _ _ _ _ _ _ _ _ _ _ _
    (step Unowned) (step Idle) (step Spinning) (step Instructions) (step Package) (step Kernel)

-- what adds up for each turn adds up for all
both : {a b c d e s : ℕ} → a ≡ b + c → b ≡ d → c ≡ e → s ≡ d + e → a ≡ s
both p q r t = omega (arith, p, q, r, t)

each : (f : Turn → Kind → ℕ) (g : Turn → ℕ) → ((t : Turn) → over_kinds (f t) ≡ g t) → (ts : List Turn)
    → over_kinds (λ k. sum_by (λ x. f x k) ts) ≡ sum_by g ts
each f g one [] = refl
each f g one (t ∷ ts) = both (more f t ts) (one t) (each f g one ts) (sum_by-cons g t ts)

pub kinds_add_up_on : KindsAddUpOn
kinds_add_up_on turns p =
    each (λ (t : Turn) (k : Kind). cond (counts_here p k t) 1 0) (λ (t : Turn). cond (is_on p t) 1 0) (λ (t : Turn). one-here (is_on p t) t.kind) turns

suc-of : {s n m : ℕ} → s ≡ 1 + n → n ≡ m → s ≡ suc m
suc-of p q = omega (arith, p, q)

ones : (ts : List Turn) → sum_by (λ (t : Turn). 1) ts ≡ length ts
ones [] = refl
ones (t ∷ ts) = suc-of (sum_by-cons (λ (x : Turn). 1) t ts) (ones ts)

pub kinds_add_up : KindsAddUp
kinds_add_up turns =
    each (λ (t : Turn) (k : Kind). cond (is_of_kind k t) 1 0) (λ (t : Turn). 1) (λ (t : Turn). one-kind t.kind) turns ∙ ones turns

-- sums over processors
add : (a b c d e f : ℕ) → a ≡ b + c → d ≡ e + f → a + d ≡ (b + e) + (c + f)
add a b c d e f p q = omega (arith, p, q)

sum-of : (f g h : ProcNo → ℕ) → ((p : ProcNo) → f p ≡ g p + h p) → (n : ℕ) → over_processors f n ≡ over_processors g n + over_processors h n
unfolding over_processors
sum-of f g h one zero = refl
sum-of f g h one (suc n) =
    add (over_processors f n) (over_processors g n) (over_processors h n) _ _ _ (sum-of f g h one n) (one (record { 0 = n }))

abbrev one_if : Bool → ℕ
one_if b = cond b 1 0

none-of : (q n : ℕ) → n ≤ q → over_processors (λ p. cond (q == p.0) 1 0) n ≡ 0
unfolding over_processors
none-of q zero low = refl
none-of q (suc n) low =
    let apart : (q == n) ≡ false = ne_eqb q n (λ same. omega (arith, same, low)) in
    let here : one_if (q == n) ≡ 0 = ap one_if apart in
    let rest = none-of q n (omega (arith, low)) in
    omega (arith, here, rest)

one-more : (q n : ℕ) (b : Bool) → (q == n) ≡ b → q < suc n → (q < n → over_processors (λ p. cond (q == p.0) 1 0) n ≡ 1)
    → over_processors (λ p. cond (q == p.0) 1 0) (suc n) ≡ 1
unfolding over_processors
one-more q n true is low so =
    let same : q ≡ n = eqb-true q n is in
    let here : one_if (q == n) ≡ 1 = ap one_if is in
    let rest = none-of q n (omega (arith, same)) in
    omega (arith, here, rest)
one-more q n false is low so =
    let here : one_if (q == n) ≡ 0 = ap one_if is in
    let apart : q ≡ n → ⊥ = λ same. (let yes = sym (eq-eqb q n same) ∙ is in cc) in
    let rest = so (omega (arith, low, apart)) in
    omega (arith, here, rest)

one-of : (q n : ℕ) → q < n → over_processors (λ p. cond (q == p.0) 1 0) n ≡ 1
unfolding over_processors
one-of q zero low = absurd (omega (arith, low))
one-of q (suc n) low = one-more q n (q == n) refl low (one-of q n)

no-turns : (n : ℕ) → over_processors (events_on []) n ≡ 0
unfolding over_processors
no-turns zero = refl
no-turns (suc n) = let rest = no-turns n in omega (arith, rest)

turn-more : (t : Turn) (ts : List Turn) (p : ProcNo) → events_on (t ∷ ts) p ≡ cond (is_on p t) 1 0 + events_on ts p
turn-more t ts p = sum_by-cons (λ (x : Turn). cond (is_on p x) 1 0) t ts

pub processors_add_up : ProcessorsAddUp
processors_add_up [] n within = no-turns n
processors_add_up (t ∷ ts) n within =
    let one = one-of t.proc.0 n (within 0 t (omega arith)) in
    let rest = processors_add_up ts n (λ k d h. within (suc k) d (omega (arith, h))) in
    let sum = sum-of (events_on (t ∷ ts)) (λ p. cond (t.proc.0 == p.0) 1 0) (events_on ts) (turn-more t ts) n in
    omega (arith, one, rest, sum)
