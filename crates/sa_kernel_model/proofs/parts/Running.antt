-- What runs and what was taken, as cells and numbers change.
use Rattle.std.proofs.Common.{◌≡◌, ◌≢◌, ℕ, zero, suc, ◌<◌, true, false, Option, Some, None, List, [], ◌∷◌, ◌++◌, get_or, slice_set, Contains, refl, sym, ap, subst, ◌∙◌, ◌⊎◌, inl, inr}
use Rattle.std.proofs.lemmas.Bool.{cases_eq}
use Rattle.std.proofs.lemmas.List.{get_or-set_other}
use Rattle.std.proofs.lemmas.List.Elements.{Contains-push_cases}
use Rattle.sa_base.specs.declared.number.SpaceNo.{SpaceNo}
use Rattle.sa_base.specs.declared.number.ActNo.{ActNo}
use Rattle.sa_base.specs.declared.context.Stopped.{Stopped}
use Rattle.sa_lemmas.specs.Function.{put}
use Rattle.sa_lemmas.proofs.FunctionUpdates.{put-at, put-other}
use Rattle.sa_lemmas.proofs.Membership.{contains-head, contains-tail, contains-nil}
use Rattle.sa_acts.specs.declared.acts.Act.{Act}
use Rattle.sa_acts.specs.Table.{runs_in, held_of, taken_from, space_of}
use Rattle.sa_kernel_model.specs.Entries.{without_acts}
use Rattle.sa_kernel_model.specs.Sound.{AreSpaces, AreAlive, AreTaken, RunsIn, IsTaken}

-- what is somewhere after an update is the new item or an old one
pub cell-cases : {A : Type 0} (xs : List (Option A)) (p q : ℕ) (x : Option A) (y : A) → get_or (slice_set xs p x) q None ≡ Some y
    → ((q ≡ p) × (x ≡ Some y)) ⊎ ((q ≢ p) × (get_or xs q None ≡ Some y))
cell-cases [] p q x y is = absurd cc
cell-cases (z ∷ xs) zero zero x y is = inl (refl, is)
cell-cases (z ∷ xs) zero (suc q) x y is = inr ((λ e. cc), is)
cell-cases (z ∷ xs) (suc p) zero x y is = inr ((λ e. cc), is)
cell-cases (z ∷ xs) (suc p) (suc q) x y is = elim (cell-cases xs p q x y is) [
  | inl at ↦ inl (ap suc at.0, at.1)
  | inr other ↦ inr ((λ e. other.0 cc), other.1)
]

pub spaces-set : (n : ℕ) (cells : List (Option SpaceNo)) (p : ℕ) (o : Option SpaceNo) → ((s : SpaceNo) → o ≡ Some s → s.0 < n)
    → AreSpaces n cells → AreSpaces n (slice_set cells p o)
spaces-set n cells p o below each q s is = elim (cell-cases cells p q o s is) [ inl at ↦ below s at.1 | inr other ↦ each q s other.1 ]

abbrev pub no_life : Option ActNo
no_life = None

abbrev life_at : ℕ → Option ActNo
life_at n = Some (record { 0 = n })

-- a taken activation is listed
listed-cases : (xs : List (List ActNo)) (i t : ℕ) (a b : ActNo) → Contains (get_or (slice_set xs i (get_or xs i [] ++ a ∷ [])) t []) b
    → ((t ≡ i) × (a ≡ b)) ⊎ Contains (get_or xs t []) b
listed-cases [] i t a b has = inr has
listed-cases (x ∷ xs) zero zero a b has = elim (Contains-push_cases x a b has) [ inl old ↦ inr old | inr new ↦ inl (refl, new) ]
listed-cases (x ∷ xs) zero (suc t) a b has = inr has
listed-cases (x ∷ xs) (suc i) zero a b has = inr has
listed-cases (x ∷ xs) (suc i) (suc t) a b has = elim (listed-cases xs i t a b has) [ inl new ↦ inl (ap suc new.0, new.1) | inr old ↦ inr old ]

module _ {C : Type 0} where
  not-none : (x : Option (Act C)) (y : Act C) → x ≡ None → x ≡ Some y → ⊥
  not-none x y none some = cc

  -- where what runs differs from the number that changes
  runs-other : (owners : List (Option SpaceNo)) (acts : ℕ → Option (Act C)) (p : ℕ) (a : ActNo) (n : ℕ) (x : Option (Act C)) → a.0 ≢ n → RunsIn owners acts p a
      → RunsIn owners (put acts n x) p a
  runs-other owners acts p a n x apart runs = record { space = runs.space; owner = runs.owner; act = put-other acts n a.0 x apart ∙ runs.act }

  pub alive-aside : (owners : List (Option SpaceNo)) (lives : List (Option ActNo)) (acts : ℕ → Option (Act C)) (p : ℕ) (a : ActNo) (x : Option (Act C))
      → get_or lives p None ≡ Some a → AreAlive owners lives acts → AreAlive owners (slice_set lives p None) (put acts a.0 x)
  alive-aside owners lives acts p a x here alive = record {
    run = λ q b is. elim (cell-cases lives p q None b is) [
      | inl at ↦ absurd (nothing b at.1)
      | inr other ↦
          runs-other owners acts q b a.0 x (λ e. other.0 (alive.apart q p b other.1 (here ∙ ap life_at (sym e))))
          (alive.run q b other.1)
    ];
    apart = λ q r b is that. elim (cell-cases lives p q None b is) [
      | inl at ↦ absurd (nothing b at.1)
      | inr other ↦ elim (cell-cases lives p r None b that) [
        | inl at ↦ absurd (nothing b at.1)
        | inr second ↦ alive.apart q r b other.1 second.1
      ]
    ];
  }
    where
      nothing : (b : ActNo) → no_life ≡ Some b → ⊥
      nothing b e = cc

  pub alive-run : (owners : List (Option SpaceNo)) (lives : List (Option ActNo)) (acts : ℕ → Option (Act C)) (p : ℕ) (a : ActNo) (s : SpaceNo)
      → get_or owners p None ≡ Some s → acts a.0 ≡ None → AreAlive owners lives acts
      → AreAlive owners (slice_set lives p (Some a)) (put acts a.0 (Some (runs_in s)))
  alive-run owners lives acts p a s owner unused alive = record {
    run = λ q b is. elim (cell-cases lives p q (Some a) b is) [
      | inl at ↦ record { space = s; owner = ap (λ n. get_or owners n None) at.0 ∙ owner; act = put-at acts a.0 b.0 (Some (runs_in s)) (same b at.1) }
      | inr other ↦ runs-other owners acts q b a.0 (Some (runs_in s)) (fresh q b other.1) (alive.run q b other.1)
    ];
    apart = λ q r b is that. elim (cell-cases lives p q (Some a) b is) [
      | inl at ↦ elim (cell-cases lives p r (Some a) b that) [
        | inl second ↦ at.0 ∙ sym second.0
        | inr second ↦ absurd (fresh r b second.1 (same b at.1))
      ]
      | inr other ↦ elim (cell-cases lives p r (Some a) b that) [
        | inl second ↦ absurd (fresh q b other.1 (same b second.1))
        | inr second ↦ alive.apart q r b other.1 second.1
      ]
    ];
  }
    where
      same : (b : ActNo) → Some a ≡ Some b → b.0 ≡ a.0
      same b e = cc

      fresh : (q : ℕ) (b : ActNo) → get_or lives q None ≡ Some b → b.0 ≢ a.0
      fresh q b is e = not-none (acts b.0) (runs_in (alive.run q b is).space) (ap acts e ∙ unused) (alive.run q b is).act

  pub alive-owner : (owners : List (Option SpaceNo)) (lives : List (Option ActNo)) (acts : ℕ → Option (Act C)) (p : ℕ) (o : Option SpaceNo)
      → get_or lives p None ≡ None → AreAlive owners lives acts → AreAlive (slice_set owners p o) lives acts
  alive-owner owners lives acts p o free alive = record {
    run = λ q b is.
        let runs = alive.run q b is in
        record { space = runs.space; owner = get_or-set_other owners p q o None (apart q b is) ∙ runs.owner; act = runs.act };
    apart = alive.apart;
  }
    where
      apart : (q : ℕ) (b : ActNo) → get_or lives q None ≡ Some b → q ≢ p
      apart q b is e = let f : get_or lives q None ≡ None = ap (λ n. get_or lives n None) e ∙ free in cc

  -- a number changes in which nothing runs
  pub alive-other : (owners : List (Option SpaceNo)) (lives : List (Option ActNo)) (acts : ℕ → Option (Act C)) (n : ℕ) (x : Option (Act C))
      → ((s : SpaceNo) → acts n ≡ Some (runs_in s) → ⊥) → AreAlive owners lives acts → AreAlive owners lives (put acts n x)
  alive-other owners lives acts n x rests alive = record {
    run = λ q b is. let runs = alive.run q b is in runs-other owners acts q b n x (λ e. rests runs.space (ap acts (sym e) ∙ runs.act)) runs;
    apart = alive.apart;
  }

  -- a taken activation does not run
  pub taken-rests : (s : ℕ) (x : Option (Act C)) (t : SpaceNo) → IsTaken s x → x ≡ Some (runs_in t) → ⊥
  taken-rests s x t taken runs = let e : Some taken.here ≡ Some (runs_in t) = sym taken.is ∙ runs in let f : taken.here.taken ≡ false = cc in cc

  taken-none : (s : ℕ) (x : Option (Act C)) → IsTaken s x → x ≡ None → ⊥
  taken-none s x taken none = not-none x taken.here none taken.is

  is-taken : (s : ℕ) (x y : Option (Act C)) → x ≡ y → IsTaken s y → IsTaken s x
  is-taken s x y e taken = record { here = taken.here; is = e ∙ taken.is; taken = taken.taken; none_held = taken.none_held; space = taken.space }

  -- a number changes that was not taken
  pub taken-other : (taken : List (List ActNo)) (acts : ℕ → Option (Act C)) (n : ℕ) (x : Option (Act C)) → ((s : ℕ) → IsTaken s (acts n) → ⊥)
      → AreTaken taken acts → AreTaken taken (put acts n x)
  taken-other taken acts n x free each s a has =
      let was = each s a has in
      is-taken s (put acts n x a.0) (acts a.0) (put-other acts n a.0 x (λ e. free s (is-taken s (acts n) (acts a.0) (ap acts (sym e)) was))) was

  pub running-free : (x : Option (Act C)) (t : SpaceNo) → x ≡ Some (runs_in t) → (s : ℕ) → IsTaken s x → ⊥
  running-free x t runs s taken = taken-rests s x t taken runs

  pub unused-free : (x : Option (Act C)) → x ≡ None → (s : ℕ) → IsTaken s x → ⊥
  unused-free x none s taken = taken-none s x taken none

  abbrev pub Rests : (ℕ → Option (Act C)) → ℕ → Type 0
  Rests acts n = (u : SpaceNo) → acts n ≡ Some (runs_in u) → ⊥

  rests-put : (acts : ℕ → Option (Act C)) (m n : ℕ) → Rests acts n → Rests (put acts m None) n
  rests-put acts m n rests u is = elim (cases_eq n m) [
    | inl same ↦ not-none (put acts m None n) (runs_in u) (put-at acts m n None same) is
    | inr apart ↦ rests u (sym (put-other acts m n None apart) ∙ is)
  ]

  -- what is given back did not run
  pub alive-without : (owners : List (Option SpaceNo)) (lives : List (Option ActNo)) (list : List ActNo) (acts : ℕ → Option (Act C))
      → ((a : ActNo) → Contains list a → Rests acts a.0) → AreAlive owners lives acts → AreAlive owners lives (without_acts list acts)
  alive-without owners lives [] acts rests alive = alive
  alive-without owners lives (a ∷ list) acts rests alive =
      alive-without owners lives list (put acts a.0 None) (λ b has. rests-put acts a.0 b.0 (rests b (contains-tail a list b has)))
      (alive-other owners lives acts a.0 None (rests a (contains-head a list)) alive)

  without-other : (list : List ActNo) (acts : ℕ → Option (Act C)) (n : ℕ) → ((c : ActNo) → Contains list c → c.0 ≢ n) → without_acts list acts n ≡ acts n
  without-other [] acts n apart = refl
  without-other (c ∷ list) acts n apart =
      without-other list (put acts c.0 None) n (λ d has. apart d (contains-tail c list d has))
      ∙ put-other acts c.0 n None (λ e. apart c (contains-head c list) (sym e))

  two-spaces : (s t : ℕ) (x : Option (Act C)) → IsTaken s x → IsTaken t x → s ≡ t
  two-spaces s t x a b =
      let e : Some a.here ≡ Some b.here = sym a.is ∙ b.is in
      let f : a.here ≡ b.here = cc in
      sym a.space ∙ ap (λ (y : Act C). y.space.0) f ∙ b.space

  pub taken-without : (taken : List (List ActNo)) (acts : ℕ → Option (Act C)) (s : ℕ) → AreTaken taken acts
      → AreTaken (slice_set taken s []) (without_acts (get_or taken s []) acts)
  taken-without taken acts s each t b has = elim (cases_eq t s) [
    | inl same ↦ absurd (contains-nil b (subst (λ (xs : List ActNo). Contains xs b) (ap (λ n. get_or (slice_set taken s []) n []) same ∙ emptied taken s) has))
    | inr apart ↦
        let was = each t b (subst (λ (xs : List ActNo). Contains xs b) (get_or-set_other taken s t [] [] apart) has) in
        is-taken t (without_acts (get_or taken s []) acts b.0) (acts b.0)
        (without-other (get_or taken s []) acts b.0
        (λ c in'. λ e. apart (two-spaces t s (acts b.0) was (is-taken s (acts b.0) (acts c.0) (ap acts (sym e)) (each s c in'))))) was
  ]
    where
      emptied : (xs : List (List ActNo)) (i : ℕ) → get_or (slice_set xs i []) i [] ≡ []
      emptied [] i = refl
      emptied (x ∷ xs) zero = refl
      emptied (x ∷ xs) (suc i) = emptied xs i

  taken-still : (s : ℕ) (x : Option (Act C)) → IsTaken s x → IsTaken s (taken_from x)
  taken-still s None taken = absurd (taken-none s None taken refl)
  taken-still s (Some y) taken = record {
    here = record y { held = None; taken = true };
    is = refl;
    taken = refl;
    none_held = refl;
    space = (let e : y ≡ taken.here = same (taken.here) taken.is in ap (λ (z : Act C). z.space.0) e ∙ taken.space);
  }
    where
      same : (z : Act C) → Some y ≡ Some z → y ≡ z
      same z is = cc

  taken-now : (x : Option (Act C)) (h : Stopped C) → held_of x ≡ Some h → IsTaken (space_of x).0 (taken_from x)
  taken-now None h is = absurd cc
  taken-now (Some y) h is = record { here = record y { held = None; taken = true }; is = refl; taken = refl; none_held = refl; space = refl }

  pub held-rests : (x : Option (Act C)) (h : Stopped C) → held_of x ≡ Some h → (u : SpaceNo) → x ≡ Some (runs_in u) → ⊥
  held-rests x h is u runs = let e : held_of x ≡ None = ap held_of runs in absurd (none-held h (sym e ∙ is))
    where
      none-held : (y : Stopped C) → None ≡ Some y → ⊥
      none-held y e = cc

  pub taken-handed : (taken : List (List ActNo)) (acts : ℕ → Option (Act C)) (a : ActNo) (h : Stopped C) → held_of (acts a.0) ≡ Some h → AreTaken taken acts
      → AreTaken (slice_set taken (space_of (acts a.0)).0 (get_or taken (space_of (acts a.0)).0 [] ++ a ∷ [])) (put acts a.0 (taken_from (acts a.0)))
  taken-handed taken acts a h is each t b has = elim (listed-cases taken (space_of (acts a.0)).0 t a b has) [
    | inl new ↦
        let now : IsTaken t (taken_from (acts a.0)) = subst (λ n. IsTaken n (taken_from (acts a.0))) (sym new.0) (taken-now (acts a.0) h is) in
        is-taken t (put acts a.0 (taken_from (acts a.0)) b.0) (taken_from (acts a.0))
        (put-at acts a.0 b.0 (taken_from (acts a.0)) (ap (λ (c : ActNo). c.0) (sym new.1))) now
    | inr old ↦
        let was = each t b old in
        elim (cases_eq b.0 a.0) [
          | inl same ↦
              is-taken t (put acts a.0 (taken_from (acts a.0)) b.0) (taken_from (acts a.0)) (put-at acts a.0 b.0 (taken_from (acts a.0)) same)
              (taken-still t (acts a.0) (is-taken t (acts a.0) (acts b.0) (ap acts (sym same)) was))
          | inr apart ↦ is-taken t (put acts a.0 (taken_from (acts a.0)) b.0) (acts b.0) (put-other acts a.0 b.0 (taken_from (acts a.0)) apart) was
        ]
  ]
