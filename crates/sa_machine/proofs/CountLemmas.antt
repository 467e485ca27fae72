-- The user levels of a list, one of which changes, and how many have something to do.
use Rattle.std.proofs.Common.{◌≡◌, ℕ, ◌+◌, ◌<◌, ◌≤◌, Bool, true, false, Option, Some, List, [], ◌∷◌, ◌++◌, length, get_or, set, slice_get, slice_set, drop, append_assoc, refl, sym, ap, subst, ◌∙◌, arith}
use Rattle.std.proofs.lemmas.List.{length-set}
use Rattle.std.proofs.lemmas.Option.{slice_get_read}
use Rattle.std.proofs.lemmas.List.Sums.{sum_by-cons, sum_by-set, get_or-le-sum_by}
use Rattle.std.specs.Prelude.{sum_by, zero, suc}
use Rattle.sa_base.specs.declared.limits.TheConstants.{MAX_SPACES}
use Rattle.sa_base.specs.declared.number.ThreadNo.{ThreadNo}
use Rattle.sa_base.specs.declared.context.Stopped.{Stopped}
use Rattle.sa_spaces.specs.Space.{SpaceView}
use Rattle.sa_spaces.specs.Workload.{WorkloadView}
use Rattle.sa_abstract.specs.Calls.{Calls}
use Rattle.sa_abstract.specs.declared.answer.Tally.{Tally}
use Rattle.sa_core_model.specs.Run.{setting, started_from}
use Rattle.sa_machine.specs.Users.{one_unless, is_over, is_still, Counted, stopped_of}

sum-few : {X : Type 0} (test : X → Bool) (xs : List X) → sum_by (λ x. one_unless (test x)) xs ≤ length xs
sum-few test [] = omega arith
sum-few test (x ∷ xs) =
    let h = sum-few test xs in
    let one = at-most (test x) in
    rw (sum_by-cons (λ y. one_unless (test y)) x xs) (omega (arith, h, one))
  where
    at-most : (b : Bool) → one_unless b ≤ 1
    at-most true = omega arith
    at-most false = omega arith

-- how many of the users have something to do, which is as many as there are at most
module _ {U C : Type 0} {f : Calls U C} {xs : List U} {n k : ℕ} (counted : Counted f xs n k) where
  pub counted-few : (n ≤ length xs) × (k ≤ length xs)
  counted-few =
      let a = sum-few (λ u. is_over (f.tally u)) xs in
      let b = sum-few (λ u. is_still (f.tally u)) xs in
      (rw counted.left a, rw counted.work b)

  pub counted-most : (n ≤ MAX_SPACES) × (k ≤ MAX_SPACES)
  counted-most =
      let h = counted-few in
      let few = counted.few in
      (omega (arith, h.0, few), omega (arith, h.1, few))

  -- one of the users was counted, as its tally says
  module _ {i : ℕ} {u : U} {was : Tally} (within : i < length xs) (read : u ≡ get_or xs i u) (was-is : was ≡ f.tally u) where
    read-tally : f.tally (get_or xs i u) ≡ was
    read-tally = ap f.tally (sym read) ∙ sym was-is

    pub counted-left : one_unless (is_over was) ≤ n
    counted-left =
        let h = get_or-le-sum_by (λ v. one_unless (is_over (f.tally v))) xs i u within in
        let e = ap (λ (t : Tally). one_unless (is_over t)) (sym read-tally) in
        rw (e, counted.left) h

    pub counted-work : one_unless (is_still was) ≤ k
    counted-work =
        let h = get_or-le-sum_by (λ v. one_unless (is_still (f.tally v))) xs i u within in
        let e = ap (λ (t : Tally). one_unless (is_still t)) (sym read-tally) in
        rw (e, counted.work) h

    -- it is another, and is counted as its tally says
    pub counted-set : {v : U} {is : Tally} {left work : ℕ} → is ≡ f.tally v → left + one_unless (is_over was) ≡ n + one_unless (is_over is)
        → work + one_unless (is_still was) ≡ k + one_unless (is_still is) → Counted f (set xs i v) left work
    counted-set {v} {is} {left} {work} is-is more-left more-work =
        let a = ap (λ (z : Tally). one_unless (is_over z)) read-tally in
        let b = ap (λ (z : Tally). one_unless (is_over z)) (sym is-is) in
        let d = ap (λ (z : Tally). one_unless (is_still z)) read-tally in
        let e = ap (λ (z : Tally). one_unless (is_still z)) (sym is-is) in
        let h = sum_by-set (λ z. one_unless (is_over (f.tally z))) xs i v u within in
        let j = sum_by-set (λ z. one_unless (is_still (f.tally z))) xs i v u within in
        record {
          left = omega (arith, h, a, b, counted.left, more-left);
          work = omega (arith, j, d, e, counted.work, more-work);
          few = rw (length-set xs i v) counted.few;
        }

    -- it is another with the same tally
    pub counted-same : {v : U} → was ≡ f.tally v → Counted f (set xs i v) n k
    counted-same {v} same = counted-set {v = v} same refl refl

-- one of a list, as it was read there
module _ {U : Type 0} {xs ys : List U} {i j : ℕ} (same : xs ≡ ys) (here : j ≡ i) (within : i < length ys) where
  pub user-within : j < length xs
  user-within = let len = ap (λ (zs : List U). length zs) same in omega (arith, len, here, within)

  pub user-at : {x : U} → x ≡ get_or xs j x → slice_get ys i ≡ Some x
  user-at {x} read = slice_get_read ys (length ys) i x refl within (read ∙ ap (λ zs. get_or zs j x) same ∙ ap (λ n. get_or ys n x) here)

  pub user-is : {x u : U} → x ≡ get_or xs j x → slice_get ys i ≡ Some u → x ≡ u
  user-is {x} {u} read at =
      let e : Some x ≡ Some u = sym (user-at read) ∙ at in
      cc

pub set-by : {U : Type 0} {xs ys : List U} {i j : ℕ} {x u v : U} (g : U → U) → xs ≡ ys → j ≡ i → x ≡ u → v ≡ g x
    → slice_set xs j v ≡ slice_set ys i (g u)
set-by {U} {xs} {ys} {i} {j} {x} {u} {v} g same here is new =
    ap (λ zs. slice_set zs j v) same ∙ ap (λ n. slice_set ys n v) here ∙ ap (slice_set ys i) (new ∙ ap g is)

-- a context as it is handed over, by what is read of its user level
pub stopped-as : {U C : Type 0} (f : Calls U C) (x u : U) (ctx : C) (thread : Option ThreadNo) (idle : Bool) → x ≡ u → thread ≡ f.thread x ctx
    → idle ≡ f.idle x ctx → ◌≡◌ {A = Stopped C} (record { ctx = ctx; thread = thread; idle = idle }) (stopped_of f u ctx)
stopped-as {U} {C} f x u ctx thread idle is thread-is idle-is =
    let of : Option ThreadNo → Bool → Stopped C = λ t i. record { ctx = ctx; thread = t; idle = i } in
    ap (λ t. of t idle) thread-is ∙ ap (λ i. of (f.thread x ctx) i) idle-is ∙ ap (λ (v : U). stopped_of f v ctx) is

-- the user level of one space more
pub started-next : {U C : Type 0} (f : Calls U C) (w : WorkloadView) (s m n : ℕ) (defs : List SpaceView) (def : SpaceView)
    → slice_get defs s ≡ Some def → m ≡ suc s
    → started_from f w (n + s) (drop s defs) ≡ f.started (setting w (n + s) def) ∷ started_from f w (n + s + 1) (drop m defs)
started-next f w s m n [] def at next = absurd cc
started-next f w s zero n (d ∷ defs) def at next = absurd (omega (arith, next))
started-next f w zero (suc m) n (d ∷ defs) def at next =
    let e : d ≡ def = cc in
    let z : m ≡ 0 = omega (arith, next) in
    let k : n + 0 ≡ n = omega arith in
    rw (k, z, e) refl
started-next f w (suc s) (suc m) n (d ∷ defs) def at next =
    let h = started-next f w s m (n + 1) defs def at (omega (arith, next)) in
    let e : n + 1 + s ≡ n + suc s = omega arith in
    subst (λ k. started_from f w k (drop s defs) ≡ f.started (setting w k def) ∷ started_from f w (k + 1) (drop m defs)) e h

-- it is started after those that are started already
pub started-more : {U C : Type 0} (f : Calls U C) (w : WorkloadView) (s m : ℕ) (old new all : List U) (def : SpaceView)
    → slice_get w.spaces s ≡ Some def → m ≡ suc s
    → new ≡ old ++ f.started (setting w s def) ∷ [] → old ++ started_from f w s (drop s w.spaces) ≡ all → new ++ started_from f w m (drop m w.spaces) ≡ all
started-more f w s m old new all def at next is was =
    let h = started-next f w s m 0 w.spaces def at next in
    let z : 0 + s ≡ s = omega arith in
    let y : s + 1 ≡ m = omega (arith, next) in
    let here : started_from f w s (drop s w.spaces) ≡ f.started (setting w s def) ∷ started_from f w m (drop m w.spaces) =
    subst (λ k. started_from f w s (drop s w.spaces) ≡ f.started (setting w s def) ∷ started_from f w k (drop m w.spaces)) y
    (subst (λ k. started_from f w k (drop s w.spaces) ≡ f.started (setting w k def) ∷ started_from f w (k + 1) (drop m w.spaces)) z h) in
    ap (λ xs. xs ++ started_from f w m (drop m w.spaces)) is
    ∙ append_assoc old (f.started (setting w s def) ∷ []) (started_from f w m (drop m w.spaces))
    ∙ ap (λ xs. old ++ xs) (sym here) ∙ was
