-- The needs that a replay decides are those of the record.
use Rattle.std.proofs.Common.{◌≡◌, ◌↔◌, ℕ, Option, Some, None, is_some, slice_index, inl, inr, refl, sym, ap, subst, ◌∙◌, ◌<◌}
use Rattle.std.proofs.lemmas.Option.{same_Some}
use Rattle.std.specs.Option.{option_map}
use Rattle.sa_base.specs.declared.number.ProcNo.{ProcNo}
use Rattle.sa_base.specs.declared.number.SpaceNo.{SpaceNo}
use Rattle.sa_base.specs.declared.number.ThreadNo.{ThreadNo}
use Rattle.sa_base.specs.declared.number.ActNo.{ActNo}
use Rattle.sa_base.specs.declared.limits.TheConstants.{PACKAGE_PAGE}
use Rattle.sa_base.specs.declared.record.Record.{Record}
use Rattle.sa_base.specs.declared.record.Record.TheVariants as records
use Rattle.sa_instr.specs.declared.instr.Instr.{Instr}
use Rattle.sa_instr.specs.declared.instr.Instr.TheVariants as instrs
use Rattle.sa_spaces.specs.Workload.{WorkloadView}
use Rattle.sa_base.specs.Pages.{has_page}
use Rattle.sa_laws.specs.State.{instr_of, next_instr, owner_at, program_len}
use Rattle.sa_laws.specs.Life.{Life}
use Rattle.sa_laws.specs.Readings.{Readings, is_resident, life_of}
use Rattle.sa_laws.specs.Record.{length_behind, locks_one}
use Rattle.sa_laws.specs.Step.{IsTouched, IsMissed, IsFaulting, IsBehindOut, CanIns, CanBlock, CanUnblock, has_io, Needs}
use Rattle.sa_replay.specs.declared.beyond.Beyond.{Beyond}
use Rattle.sa_replay.specs.declared.beyond.LifeSeen.{LifeSeen}
use Rattle.sa_replay.specs.Needs.{IsTouchedIn, IsMissedIn, IsFaultingIn, CanInsWith, CanBlockWith, CanUnblockWith, NeedsWith, Sees, seen_of, length_before, locks_one_of, CanChange}

-- among the pages that are read, a page is resident
touched : (r : Readings) (s : SpaceNo) (instr : Instr) → IsTouchedIn (slice_index r.pages s.0) instr ≡ IsTouched r s instr
touched r s (instrs.Touch page) = refl
touched r s _ = refl

missed : (r : Readings) (s : SpaceNo) (instr : Instr) → IsMissedIn (slice_index r.pages s.0) instr ≡ IsMissed r s instr
missed r s (instrs.Touch page) = refl
missed r s _ = refl

-- a fact that is the same type
along : (A B : Type 0) → A ≡ B → A → B
along A B same a = subst (λ (X : Type 0). X) same a

back : (A B : Type 0) → A ≡ B → B → A
back A B same b = subst (λ (X : Type 0). X) (sym same) b

module _ (w : WorkloadView) (p : ProcNo) (r : Readings) where
  -- an instruction
  ins_needs : (s : SpaceNo) (t : ThreadNo) (i : ℕ) → CanInsWith w p r.state s t i (slice_index r.pages s.0) ↔ CanIns w p r s t i
  ins_needs s t i =
      let same = touched r s (instr_of w r.state s t i) in (
        λ h. record { owned = h.owned; runs = h.runs; pc = h.pc; within = h.within; page = along _ _ same h.page },
        λ h. record { owned = h.owned; runs = h.runs; pc = h.pc; within = h.within; page = back _ _ same h.page },
      )

  -- a block
  faulting : (s : SpaceNo) (t : Option ThreadNo) → IsFaultingIn w r.state s t (slice_index r.pages s.0) ≡ IsFaulting w r s t
  faulting s None = refl
  faulting s (Some t) = missed r s (next_instr w r.state s t)

  locking : (life : Option Life) → locks_one_of (option_map seen_of life) ≡ locks_one life
  locking None = refl
  locking (Some life) = refl

  behind : (s : SpaceNo) (t : Option ThreadNo) (last : Option Record) → length_before w r.state s t last ≡ length_behind w r s t last
  behind s t None = refl
  behind s t (Some (records.Ins of u i)) = refl
  behind s t _ = refl

  module _ (s : SpaceNo) (t : Option ThreadNo) (a : ActNo) (beyond : Beyond) (last : beyond.last ≡ r.last) (pages : beyond.pages ≡ slice_index r.pages s.0)
      (life : beyond.life ≡ option_map seen_of (life_of r a)) where
    after_io : is_some (length_before w r.state s t beyond.last) ≡ is_some (length_behind w r s t r.last)
    after_io = ap (λ (l : Option Record). is_some (length_before w r.state s t l)) last ∙ ap (λ (o : Option ℕ). is_some o) (behind s t r.last)

    fault : IsFaultingIn w r.state s t beyond.pages ≡ IsFaulting w r s t
    fault = ap (λ n. IsFaultingIn w r.state s t n) pages ∙ faulting s t

    locks : locks_one_of beyond.life ≡ locks_one (life_of r a)
    locks = ap locks_one_of life ∙ locking (life_of r a)

    absent : has_page beyond.pages PACKAGE_PAGE ≡ is_resident r s PACKAGE_PAGE
    absent = ap (λ n. has_page n PACKAGE_PAGE) pages

    block_needs : CanBlockWith w p r.state s t beyond ↔ CanBlock w p r s t a
    block_needs = (
      λ h. record {
        owned = h.owned;
        runs = h.runs;
        cause = elim h.cause [
          | inl is ↦ inl (sym after_io ∙ is)
          | inr other ↦ inr (elim other [
            | inl is ↦ inl (along _ _ fault is)
            | inr is ↦ inr (sym locks ∙ is.0, sym absent ∙ is.1)
          ])
        ];
      },
      λ h. record {
        owned = h.owned;
        runs = h.runs;
        cause = elim h.cause [
          | inl is ↦ inl (after_io ∙ is)
          | inr other ↦ inr (elim other [
            | inl is ↦ inl (back _ _ fault is)
            | inr is ↦ inr (locks ∙ is.0, absent ∙ is.1)
          ])
        ];
      },
    )

  -- an unblock
  module _ (s : SpaceNo) (t : Option ThreadNo) (a : ActNo) (beyond : Beyond)
      (is : beyond.life ≡ option_map seen_of (life_of r a)) (io : beyond.has_io ≡ has_io r a) where
    seen_life : (o : Option Life) (x : LifeSeen) → option_map seen_of o ≡ Some x → (life : Life) × (o ≡ Some life) × (seen_of life ≡ x)
    seen_life None x e = cc
    seen_life (Some life) x e = (life, refl, same_Some _ _ e)

    unblock_needs : CanUnblockWith r.state s t beyond ↔ CanUnblock r s t a
    unblock_needs = (
      λ h.
          let found = seen_life (life_of r a) h.life (sym is ∙ h.is) in
          record {
            life = found.0;
            is = found.1;
            space = ap (λ (x : LifeSeen). x.space) found.2 ∙ h.space;
            thread = ap (λ (x : LifeSeen). x.thread) found.2 ∙ h.thread;
            io = sym io ∙ h.io;
            blocked = h.blocked;
          },
      λ h. record {
        life = seen_of h.life;
        is = is ∙ ap (λ (o : Option Life). option_map seen_of o) h.is;
        space = h.space;
        thread = h.thread;
        io = io ∙ h.io;
        blocked = h.blocked;
      },
    )

  -- an `out`
  out_needs : (s : SpaceNo) (t : ThreadNo) (value : ℕ) (last : Option Record) → last ≡ r.last
      → (owner_at r.state p ≡ Some s) × IsBehindOut w r.state s t value last ↔ (owner_at r.state p ≡ Some s) × IsBehindOut w r.state s t value r.last
  out_needs s t value last is = (
    λ h. (h.0, subst (λ (l : Option Record). IsBehindOut w r.state s t value l) is h.1),
    λ h. (h.0, subst (λ (l : Option Record). IsBehindOut w r.state s t value l) (sym is) h.1),
  )

  pub needs : (beyond : Beyond) (x : Record) → Sees r x beyond → NeedsWith w p r.state beyond x ↔ Needs w p r x
  needs beyond (records.Ins s t i) sees = subst (λ n. CanInsWith w p r.state s t i n ↔ CanIns w p r s t i) (sym sees) (ins_needs s t i)
  needs beyond (records.Out s t value) sees = out_needs s t value beyond.last sees
  needs beyond (records.Block s t act io) sees = block_needs s t act beyond sees.0 sees.1 sees.2
  needs beyond (records.Unblock s t act) sees = unblock_needs s t act beyond sees.0 sees.1
  needs beyond _ sees = (λ h. h, λ h. h)

-- a record whose needs are met can be done
pub can-change : (w : WorkloadView) (p : ProcNo) (r : Readings) (x : Record) → Needs w p r x → CanChange w p r.state x
can-change w p r (records.Ins s t i) met = record { runs = met.runs; within = subst (λ n. n < program_len w r.state s t) (sym met.pc) met.within }
can-change w p r (records.Run s t) met = met
can-change w p r (records.Stop s t a) met = met.1
can-change w p r (records.Block s t a io) met = met.runs
can-change w p r (records.Unblock s t a) met = met.blocked
can-change w p r (records.Cont s t) met = met
can-change w p r (records.Back s t) met = met.1
can-change w p r (records.Ready s t) met = met.1
can-change w p r _ met = tt
