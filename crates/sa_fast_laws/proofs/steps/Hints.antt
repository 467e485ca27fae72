-- What the table of steps asks of hints and of looks that find nothing.
use Rattle.std.proofs.Common.{◌≡◌, ℕ, ◌+◌, ◌-◌, ◌≤◌, ◌<◌, min, nat_le, nat_lt, true, false, [], length, Some, None, refl, sym, ap, ◌∙◌, subst, inl, inr, arith}
use Rattle.std.specs.Prelude.{if◌then◌else◌}
use Rattle.std.proofs.lemmas.Bool.{cases_lt, ltb-true, lt-ltb, lt-leb, le-leb, leb-true, and_from, and_parts}
use Rattle.std.proofs.lemmas.Bool.Decides.{nat_tests}
use Rattle.std.proofs.lemmas.Option.{same_Some}
use Rattle.sa_base.specs.declared.context.Seen.{Seen}
use Rattle.sa_base.specs.declared.number.ActNo.{ActNo}
use Rattle.sa_base.specs.declared.number.SpaceNo.{SpaceNo}
use Rattle.sa_instr.specs.declared.limits.TheConstants.{MAX_PATIENCE}
use Rattle.sa_spaces.specs.Workload.{WorkloadView}
use Rattle.sa_lists.specs.ReadyView.{sought}
use Rattle.sa_fast.specs.Hints.{usable as usable_by, more_owed}
use Rattle.sa_abstract.specs.Calls.{Contexts}
use Rattle.sa_abstract.specs.Setting.{Setting}
use Rattle.sa_package_model.specs.Context.{section_in}
use Rattle.sa_package_model.specs.Rules.{load, owed, is_idle}
use Rattle.sa_package_model.specs.Stands.{IsStanding}
use Rattle.sa_package_model.specs.declared.context.Context.{Context}
use Rattle.sa_package_model.specs.declared.context.ContextState.{ContextState}
use Rattle.sa_package_model.specs.declared.context.ContextState.TheVariants.{Look}
use Rattle.sa_package_model.specs.declared.package.Package.{Package}
use Rattle.sa_laws.specs.Life.{Life}
use Rattle.sa_laws.specs.Readings.{Readings, HasNothing, NoneIsOpen, life_of, carried_by as runs_by, demand_of, load_of, usable}
use Rattle.sa_laws.specs.State.{space_def, space_at}
use Rattle.sa_laws.specs.Turns.{FindsNone, CanRaise, CanLower, CanIdle}
use Rattle.sa_fast_laws.proofs.relation.InsideMarks.{hand_none}
use Rattle.sa_fast_laws.proofs.relation.ThreadsBeside.{life-here}
use Rattle.sa_fast_laws.specs.FastFits.{Holds}
use Rattle.sa_fast_laws.specs.Life.{locks_from, HasLife}
use Rattle.sa_fast_laws.specs.Stage.{stage_of, is_gone}
use Rattle.sa_fast_laws.specs.View.{view, in_copy, looks_of}
use Rattle.sa_fast_laws.proofs.lists.LockedLists.{AreReadyAlike}
use Rattle.sa_fast_laws.proofs.lists.OpenLists.{sought-none_opens}
use Rattle.sa_fast_laws.proofs.steps.Scenes.{IsOwnMarked}

module _ (set : Setting) (e : ℕ) (u : Package) (cs : Contexts Context) (h : IsStanding set e u cs) (s : SpaceNo) (r : Readings) (k : Holds s r u cs)
    (a : ActNo) (state : ContextState) (is : cs a.0 ≡ Some (record { state = state; sections = []; work = None })) (life : Life)
    (there : life_of r a ≡ Some life)
    (stays : is_gone (stage_of r s a life) ≡ false) (outside : section_in state ≡ None) (no_copy : in_copy state ≡ false) (w : WorkloadView)
    (seen : Seen) (demand : seen.demand ≡ demand_of r s) where
  abbrev c : Context
  c = record { state = state; sections = []; work = None }

  l : HasLife s u.shared (space_at r.state s) (stage_of r s a life) (view c) life
  l = life-here s r u cs k a c life is there

  -- it has no lock, no open cont, and an empty hand
  pub nothing : HasNothing r life
  nothing = record {
    locks = l.locks ∙ ap (λ o. locks_from (in_copy state) o []) outside;
    cont = l.cont ∙ no_copy;
    hand = hand_none set e u cs h s r k a state [] None is life there stays outside no_copy refl refl;
  }

  -- A HINT FOR MORE
  pub can-raise : (n : ℕ) → u.processors ≡ w.processors → owed u seen ≡ Some n → CanRaise w r life (demand_of r s + n)
  can-raise n processors owes =
      let use_is : usable w r life.space ≡ usable_by u.processors (load u) =
      ap (usable w r) l.space ∙ ap (min w.processors) k.load ∙ ap (λ m. min m (load u)) (sym processors) ∙ same_min u.processors (load u) in
      let parts = more_parts seen.demand u.processors (load u) n owes in
      record {
        nothing = nothing;
        below = let at_s = ap (demand_of r) l.space in let less = parts.0 in omega arith;
        number = let sum = parts.1 in omega arith;
      } where
        same_min : (n m : ℕ) → min n m ≡ usable_by n m
        same_min n m = grind (arith, nat_tests)

        more_parts : (d p m n : ℕ) → more_owed d p m ≡ Some n → (d < usable_by p m) × (d + n ≡ usable_by p m)
        more_parts d p m n owes = elim (cases_lt d (usable_by p m)) [
          | inl less ↦
              let is_it : (if nat_le (usable_by p m) d then None else Some (usable_by p m - d)) ≡ Some (usable_by p m - d) =
              ap (λ b. if b then None else Some (usable_by p m - d)) (lt-leb (usable_by p m) d less) in
              let same = same_Some (usable_by p m - d) n (sym is_it ∙ owes) in (less, omega arith)
          | inr more ↦
              absurd
              (let is_it : (if nat_le (usable_by p m) d then None else Some (usable_by p m - d)) ≡ None = ap (λ b. if b then None else Some (usable_by p m - d))
              (le-leb (usable_by p m) d more) in let no_such = sym is_it ∙ owes in cc)
        ]

  -- A LOOK that finds nothing
  module _ (q : ℕ) (looks : ℕ) (at : state ≡ Look looks) (none : sought u.shared.state.lists q ≡ None) (inside : q < length u.shared.state.lists.lists)
      (alike : AreReadyAlike s r u) (carries : runs_by r life ≡ None) (mark : IsOwnMarked c life) (def : space_def w s ≡ u.def)
      (patient : u.def.patience ≤ MAX_PATIENCE) where
    finds : FindsNone r life
    finds = record { carries = carries; none = subst (NoneIsOpen r) (sym l.space) (sought-none_opens set e u cs h s r k alike q inside none) }

    scans_are : min life.scans MAX_PATIENCE ≡ looks
    scans_are = mark.scans ∙ ap looks_of at

    patience_is : (space_def w life.space).patience ≡ u.def.patience
    patience_is = ap (λ o. (space_def w o).patience) l.space ∙ ap (λ d. d.patience) def

    pub can-idle : is_idle u seen looks ≡ false → CanIdle w r life
    can-idle not_idle = record {
      finds = finds;
      no_hint_is_due = elim (cases_lt life.scans u.def.patience) [
        | inl less ↦ inl (let same = patience_is in omega arith)
        | inr more ↦ inr (elim (cases_lt (load u) seen.demand) [
          | inl above ↦ absurd (
              let yes : is_idle u seen looks ≡ true =
              and_from (nat_le u.def.patience looks) (nat_lt (load u) seen.demand) (le-leb u.def.patience looks (let same = scans_are in omega arith))
              (lt-ltb (load u) seen.demand above) in
              cc)
          | inr few ↦ let at_s = ap (demand_of r) l.space in let load_s = ap (load_of r) l.space in let same = k.load in omega arith
        ])
      ];
    }

    pub can-lower : is_idle u seen looks ≡ true → CanLower w r life (demand_of r s - 1)
    can-lower idle = record {
      finds = finds;
      patient = let same = patience_is in let scans = scans_are in
          let less = leb-true u.def.patience looks (and_parts (nat_le u.def.patience looks) (nat_lt (load u) seen.demand) idle).0 in omega arith;
      above = let at_s = ap (demand_of r) l.space in let load_s = ap (load_of r) l.space in let same = k.load in
          let less = ltb-true (load u) seen.demand (and_parts (nat_le u.def.patience looks) (nat_lt (load u) seen.demand) idle).1 in omega arith;
      number = let at_s = ap (demand_of r) l.space in
          let less = ltb-true (load u) seen.demand (and_parts (nat_le u.def.patience looks) (nat_lt (load u) seen.demand) idle).1 in omega arith;
    }

-- the count of looks goes on with the scans
pub scans_more : (scans looks : ℕ) → min scans MAX_PATIENCE ≡ looks → min (scans + 1) MAX_PATIENCE ≡ min (looks + 1) MAX_PATIENCE
scans_more scans looks same = omega arith
