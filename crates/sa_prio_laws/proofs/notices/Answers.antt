-- The law of an upcall's end: the context settles, and has the mark where a pair exists.
use Rattle.std.proofs.Common.{◌≡◌, ℕ, zero, suc, ◌<◌, Bool, true, false, ◌||◌, ◌&&◌, not, List, [], ◌∷◌, length, Option, Some, None, option_map, is_some, Contains, slice_index_or, refl, sym, ap, ◌∙◌, subst, inl, inr, arith}
use Rattle.std.specs.Prelude.{if◌then◌else◌}
use Rattle.std.proofs.lemmas.Bool.{cases_eq, or_right}
use Rattle.std.proofs.lemmas.Option.{same_Some}
use Rattle.std.specs.List.{list_any}
use Rattle.sa_base.specs.declared.context.Seen.{Seen}
use Rattle.sa_base.specs.declared.number.ActNo.{ActNo}
use Rattle.sa_base.specs.declared.number.ThreadNo.{ThreadNo}
use Rattle.sa_base.specs.declared.record.Record.{Record}
use Rattle.sa_base.specs.declared.record.Record.TheVariants as records
use Rattle.sa_lemmas.proofs.FunctionUpdates.{put-same, put-other}
use Rattle.sa_lemmas.specs.Function.{put}
use Rattle.sa_spaces.specs.Workload.{WorkloadView}
use Rattle.sa_code.specs.declared.state.Frame.{Frame}
use Rattle.sa_abstract.specs.Calls.{Contexts}
use Rattle.sa_abstract.specs.Setting.{Setting}
use Rattle.sa_package_model.proofs.Views.{settled_between}
use Rattle.sa_package_model.specs.Context.{carried_by, has_some, has_bulk, settled_to, stands_inside}
use Rattle.sa_package_model.specs.Rules.{owed}
use Rattle.sa_package_model.specs.declared.context.ContextState.TheVariants.{Work}
use Rattle.sa_laws.specs.Event.{Event}
use Rattle.sa_laws.specs.History.{arisen, behind}
use Rattle.sa_laws.specs.Readings.{Readings, running_of, ready_of}
use Rattle.sa_laws.specs.Record.{with_life}
use Rattle.sa_laws.specs.Shape.{own_part}
use Rattle.sa_user_laws.specs.Moments.{AlikeButEnds, Sees}
use Rattle.sa_user_laws.specs.Scene.{Holds as HoldsNow}
use Rattle.sa_fast_laws.proofs.relation.InsideMarks.{settled-looks}
use Rattle.sa_fast_laws.specs.View.{view, is_lone}
use Rattle.sa_fast_laws.proofs.lives.Answers.{settled_new, answer-inside, answer-fits}
use Rattle.sa_fast_laws.specs.Rests.{LivesFit}
use Rattle.sa_ranks.specs.Inside.{is_inside_or_urged, has_entry, is_of_entry, begins_entry, settling}
use Rattle.sa_ranks.specs.Pairs.{has_pair}
use Rattle.sa_prio_model.proofs.Contexts.{bases-put}
use Rattle.sa_prio_model.specs.Prio.{Prio, has_pair as prio_pair}
use Rattle.sa_prio_model.specs.Stands.{bases, prio_stands}
use Rattle.sa_prio_model.specs.Step.{prio_calls}
use Rattle.sa_prio_model.specs.Urge.{is_out}
use Rattle.sa_prio_model.specs.declared.context.PrioContext.{PrioContext}
use Rattle.sa_prio_laws.proofs.relation.Fresh.{fresh-when}
use Rattle.sa_prio_laws.proofs.relation.Pairs.{pairs-alike, is-near, sees-lines}
use Rattle.sa_prio_laws.specs.PrioFits.{is_fresh, prio_view, PrioFits, prio_fits, prio_hears}
use Rattle.sa_prio_laws.proofs.frames.Frames.{plain, base-is}

-- an upcall's event has an entry of the kernel
any-in : (p : Record → Bool) (xs : List Record) (x : Record) → Contains xs x → p x ≡ true → list_any p xs ≡ true
any-in p [] x has so = absurd (let inside = has.1 in let none : length {A = Record} [] ≡ 0 = refl in omega arith)
any-in p (y ∷ xs) x has so = by has.0 has.1 has.2 (λ more. any-in p xs x more so) where
  by : (k : ℕ) → k < length (y ∷ xs) → slice_index_or (y ∷ xs) k x ≡ x → (Contains xs x → list_any p xs ≡ true) → list_any p (y ∷ xs) ≡ true
  by zero below is rest = ap (λ b. b || list_any p xs) (ap p is ∙ so)
  by (suc i) below is rest = ap (λ b. p y || b) (rest (i, omega arith, is)) ∙ or_right (p y) true refl

pub has-entry : (xs : List Record) (x : Record) → Contains xs x → is_of_entry x ≡ true → has_entry xs ≡ true
has-entry [] x has so = absurd (let inside = has.1 in let none : length {A = Record} [] ≡ 0 = refl in omega arith)
has-entry (y ∷ xs) x has so = ap (λ b. begins_entry y || b) (any-in is_of_entry (y ∷ xs) x has so) ∙ or_right (begins_entry y) true refl

pub out-or : (b x : Bool) → (b || (not b && x)) ≡ (b || (true && x))
out-or true x = refl
out-or false x = refl

pub prio-answers : (w : WorkloadView) (s : Setting) (e : ℕ) (before r last : Readings) (ev : Event) (v : Prio) (cs : Contexts PrioContext) (n : ActNo)
    (c : PrioContext) (seen : Seen)
    → HoldsNow prio_stands w s e r v cs → prio_hears w s r n v cs → cs n.0 ≡ Some c → running_of r ev.proc ≡ Some n
    → Contains ev.records (records.Up s.space n) → AlikeButEnds last r → Sees s.space r ev.proc ev.number seen
    → prio_fits w s (record r { lives = with_life (arisen is_inside_or_urged w before ev last) (Some n) r.lives }) (prio_calls.answered v seen c).0
    (put cs n.0 (Some (prio_calls.answered v seen c).1))
prio-answers w s e before r last ev v cs n c seen h k is runs upped alike sees =
    let c_is : c ≡ plain c =
    ap (λ x. record { base = record { state = x; sections = c.base.sections; work = c.base.work }; urge = c.urge })
    (k.lives.begins c.base (base-is cs n.0 c is))
    ∙ ap (λ x. record { base = record { state = Work None; sections = c.base.sections; work = c.base.work }; urge = x }) (k.calm c is) in
    subst (λ y. prio_fits w s (record r { lives = with_life (arisen is_inside_or_urged w before ev last) (Some n) r.lives }) (prio_calls.answered v seen y).0
    (put cs n.0 (Some (prio_calls.answered v seen y).1))) (sym c_is) (by c.base.sections c.base.work (is ∙ ap Some c_is)) where
      by : (fs : List Frame) (wk : Option ThreadNo) → cs n.0 ≡ Some (record { base = record { state = Work None; sections = fs; work = wk }; urge = false })
          → let new : PrioContext = record {
            base = record { state = settled_to None (has_some fs || is_some wk) (is_some (owed v.base seen)) (has_bulk seen); sections = fs; work = wk };
            urge = is_out (settled_to None (has_some fs || is_some wk) (is_some (owed v.base seen)) (has_bulk seen)) && prio_pair v seen;
          } in
          prio_fits w s (record r { lives = with_life (arisen is_inside_or_urged w before ev last) (Some n) r.lives }) v (put cs n.0 (Some new))
      by fs wk at =
          let old : PrioContext = record { base = record { state = Work None; sections = fs; work = wk }; urge = false } in
          let based = base-is cs n.0 old at in
          let base = settled_new w s e before r last ev v.base (bases cs) n fs wk seen h.of h.value.base h.moment based runs alike sees in
          let new : PrioContext = record { base = base; urge = is_out base.state && prio_pair v seen } in
          let its = k.lives.holds.lives n old.base based in
          let inside = is_inside_or_urged w before ev last true its.0 in
          let is_in = answer-inside w s e before r last ev v.base
          (bases cs) n fs wk seen h.of h.value.base h.moment based runs alike sees prio_view cs k.lives in
          let pairs : has_pair w (settling w before ev last) its.0.space ≡ prio_pair v seen =
          ap (λ b. has_pair w (if b then last else behind w ev before (own_part ev.records)) its.0.space)
          (has-entry ev.records (records.Up s.space n) upped refl)
          ∙ ap (has_pair w last) its.2.space ∙ sym (ap (λ y. has_pair w y s.space) alike.is)
          ∙ sym
          (pairs-alike s e v cs h.value.base r h.moment r (is-near s.space (bases cs) r) seen (sees-lines s.space r ev.proc ev.number seen sees) k.lives.holds
          (ready_of r s.space) k.ranked k.on w
          h.sizes.running (h.value.processors ∙ h.of.processors)) in
          let shows : (stands_inside base.state || new.urge) ≡ inside =
          out-or (stands_inside base.state) (prio_pair v seen) ∙ ap (λ b. stands_inside base.state || (true && b)) (sym pairs)
          ∙ ap (λ b. b || (true && has_pair w (settling w before ev last) its.0.space)) (sym is_in) in
          let lives = answer-fits w s e before r last ev v.base (bases cs) n fs wk seen h.of h.value.base h.moment based runs alike sees prio_view cs k.lives
          new inside (
          ap (λ k. record (view base) { inside = stands_inside base.state || new.urge; lone = is_fresh new.urge k && is_lone base.state base.sections })
          (settled-looks None (has_some fs || is_some wk) (is_some (owed v.base seen)) (has_bulk seen))
          ∙ ap (λ b. record (view base) { inside = stands_inside base.state || new.urge; lone = b && is_lone base.state base.sections })
          (fresh-when new.urge 0 (λ is. refl))
          ∙ ap (λ b. record (view base) { inside = b }) shows) in
          let ds = put cs n.0 (Some new) in
          subst (λ ls. PrioFits s.space (record r { lives = ls }) v ds)
          (sym (ap (λ o. put r.lives n.0 (option_map (arisen is_inside_or_urged w before ev last) o)) its.1))
          (record {
            lives = subst (λ bs. LivesFit prio_view s.space (record r { lives = put r.lives n.0 (Some (record its.0 { inside = inside })) }) v.base bs ds)
                (sym (bases-put cs n.0 (Some new))) lives;
            ranked = k.ranked;
            on = λ y x z there mine. elim (cases_eq x.0 n.0) [
              | inl same ↦
                  let one : new ≡ z = same_Some new z (sym (put-same cs n.0 (Some new)) ∙ sym (ap ds same) ∙ mine) in
                  k.on y x old there (ap cs same ∙ at)
                  ∙ sym (settled_between None (has_some fs || is_some wk) (is_some (owed v.base seen)) (has_bulk seen)).carries
                  ∙ ap (λ (p : PrioContext). carried_by p.base.state) one
              | inr ne ↦ k.on y x z there (sym (put-other cs n.0 x.0 (Some new) ne) ∙ mine)
            ];
          })
