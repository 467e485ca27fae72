-- A thread gives way: it comes last in its context's work list, and the context settles.
use Rattle.std.proofs.Common.{◌≡◌, ℕ, Some, None, is_some, refl, ap, arith}
use Rattle.sa_base.specs.declared.context.Seen.{Seen}
use Rattle.sa_abstract.specs.Setting.{Setting}
use Rattle.sa_abstract.specs.Calls.{Contexts}
use Rattle.sa_lemmas.specs.Function.{put}
use Rattle.sa_fast.specs.declared.threads.KeptPlace.TheVariants.{Carried}
use Rattle.sa_fast.specs.Rest.{one_of}
use Rattle.sa_package_model.specs.declared.context.Context.{Context}
use Rattle.sa_package_model.specs.declared.package.Package.{Package}
use Rattle.sa_package_model.specs.Context.{carried_by, section_in, is_left, has_bulk}
use Rattle.sa_package_model.specs.Conditions.{CanBeDue}
use Rattle.sa_package_model.specs.Rules.{owed, settled, placed, put_last}
use Rattle.sa_package_model.specs.Stands.{IsStanding}
use Rattle.sa_package_model.proofs.Changing.{IsChange, change-stands}
use Rattle.sa_package_model.proofs.Views.{settled_between, between_locks, between_threads, between_context, between_rest}
use Rattle.sa_package_model.proofs.Holding.{own_work}
use Rattle.sa_package_model.proofs.PlaceFacts.{agree_in_hand, put_down, own_placeable, own_at_rest, carried_hand_place}
use Rattle.sa_package_model.proofs.Parts.{parts_placed, parts_works, made_with, due-step}
use Rattle.sa_package_model.proofs.WorkRule.{between_due, settled-change}

module _ (s : Setting) (e : ℕ) (u : Package) (cs : Contexts Context) (h : IsStanding s e u cs) (a : ℕ) (c : Context) (is : cs a ≡ Some c)
    (outside : section_in c.state ≡ None) (seen : Seen) where
  -- its thread can be put into the work list
  pub way_due : CanBeDue u.shared (carried_by c.state)
  way_due = between_due s e u cs h a c is (carried_by c.state) outside refl

  pub way-change : let p = put_last u c (carried_by c.state) in IsChange s e u p.user (Some c) (settled p.user seen p.ctx None)
  way-change =
      let t = carried_by c.state in
      let p = put_last u c t in
      let step = due-step u.shared c.work t h.parts.works (own_work s e u cs h a c is) way_due in
      let new = settled p.user seen p.ctx None in
      let state = settled_between None (is_left p.ctx) (is_some (owed p.user seen)) (has_bulk seen) in
      let placeable = own_placeable s e u cs h a c is t refl in
      record {
        made = made_with s u p.user.shared h.made refl;
        code = h.code;
        parts =
            parts_works u.def u.processors e (placed u.shared t Carried) p.user.shared.works
            (parts_placed u.def u.processors e u.shared t Carried h.parts) step.works;
        locks = λ y. omega (arith, between_locks new None state.section state.carries y, between_locks c t outside refl y);
        threads =
            λ y. omega (
              arith,
              between_threads new None state.section state.carries p.user.shared.works y,
              between_threads c t outside refl u.shared.works y,
              step.threads y,
            );
        names = λ y. step.names y;
        works = λ y q r. step.others y q r;
        lists = λ y q r. refl;
        places = agree_in_hand u.shared t 0 Carried carried_hand_place placeable (own_at_rest s e u cs h a c is t refl) h.places;
        carries = λ y.
            let down = put_down u.shared t Carried refl placeable y in
            let none : one_of (carried_by new.state) y ≡ 0 = ap (λ o. one_of o y) state.carries in
            omega arith;
        context =
            between_context new None state.section state.carries u.shared.state.lists state.is
            (between_rest c t outside refl u.shared.state.lists (h.contexts a c is));
      }

  pub way_stands : let p = put_last u c (carried_by c.state) in IsStanding s e p.user (put cs a (Some (settled p.user seen p.ctx None)))
  way_stands = let p = put_last u c (carried_by c.state) in change-stands s e u cs h e a p.user (Some c) (settled p.user seen p.ctx None) is way-change

  -- a context between routines settles
  pub settled_stands : IsStanding s e u (put cs a (Some (settled u seen c (carried_by c.state))))
  settled_stands =
      let d = settled u seen c (carried_by c.state) in
      change-stands s e u cs h e a u (Some c) d is (settled-change s e u cs h a c is (carried_by c.state) outside refl seen)
