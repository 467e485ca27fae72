-- A blocked life comes back: the package does nothing, and what it has still fits.
use Rattle.std.proofs.Common.{◌≡◌, ◌≢◌, ℕ, ◌<◌, false, [], ◌∷◌, ◌++◌, length, Option, Some, None, option_map, refl, sym, ap, ◌∙◌, subst, arith}
use Rattle.std.proofs.lemmas.Bool.{eq-eqb, ne_eqb}
use Rattle.std.proofs.lemmas.List.{get_or-set_same}
use Rattle.std.specs.List.{list_any}
use Rattle.sa_base.specs.declared.number.ActNo.{ActNo}
use Rattle.sa_base.specs.declared.number.ProcNo.{ProcNo}
use Rattle.sa_base.specs.declared.number.SpaceNo.{SpaceNo}
use Rattle.sa_base.specs.declared.number.ThreadNo.{ThreadNo}
use Rattle.sa_base.specs.declared.record.Note.TheVariants.{Preempted, Unblocked}
use Rattle.sa_base.specs.declared.record.Record.TheVariants.{Unblock}
use Rattle.sa_lemmas.specs.Function.{put}
use Rattle.sa_spaces.specs.Workload.{WorkloadView}
use Rattle.sa_abstract.specs.Calls.{Contexts}
use Rattle.sa_abstract.specs.Setting.{Setting}
use Rattle.sa_package_model.proofs.Holding.{own_made}
use Rattle.sa_package_model.specs.Context.{carried_by}
use Rattle.sa_package_model.specs.Stands.{IsStanding}
use Rattle.sa_package_model.specs.declared.context.Context.{Context}
use Rattle.sa_package_model.specs.declared.package.Package.{Package}
use Rattle.sa_laws.specs.Life.{Life, with_hand}
use Rattle.sa_laws.specs.Readings.{Readings, running_of, life_of, untold_of}
use Rattle.sa_laws.specs.Record.{after_record, same_note, one_thread}
use Rattle.sa_laws.specs.State.{Thread, space_at, thread_in}
use Rattle.sa_laws.specs.declared.place.Place.TheVariants as place
use Rattle.sa_fast_laws.proofs.relation.OneLife.{carried_has}
use Rattle.sa_fast_laws.proofs.relation.ThreadsBeside.{life-here}
use Rattle.sa_fast_laws.specs.FastFits.{SitsIn, Holds}
use Rattle.sa_fast_laws.specs.Life.{HasLife}
use Rattle.sa_fast_laws.specs.Stage.{stage_by, stage_on, stage_of, is_act, is_gone, is_running, place_of, kept_of, InBlock, Returned}
use Rattle.sa_fast_laws.specs.View.{view}
use Rattle.sa_fast_laws.proofs.notices.OwnThread.{IsPlaced, own-placed, own-fits, gone-life, counted-zero}
use Rattle.sa_fast_laws.proofs.notices.Untold.{IsNoted, IsUntold, noted-stage, untold-stage, untold-holds}

module _ (set : Setting) (e : ℕ) (u : Package) (cs : Contexts Context) (h : IsStanding set e u cs) (s : SpaceNo) (r : Readings) (k : Holds s r u cs)
    (a : ActNo) (c : Context) (is : cs a.0 ≡ Some c) (w : WorkloadView) (number : ℕ) (p : ProcNo) (life : Life)
    (idle : (y : ProcNo) → running_of r y ≢ Some a) (there : life_of r a ≡ Some life) (of : life.space ≡ s)
    (known : s.0 < length r.state.spaces) (heard : s.0 < length r.untold) (no_notice : list_any (same_note (Preempted a)) (untold_of r s) ≡ false)
    (no_back : list_any (same_note (Unblocked a)) (untold_of r s) ≡ false) where
  abbrev t : Option ThreadNo
  t = carried_by c.state

  abbrev q : Readings
  q = after_record w number p r (Unblock s t a)

  abbrev after : Life
  after = with_hand (one_thread t) life

  l : HasLife s u.shared (space_at r.state s) (stage_of r s a life) (view c) life
  l = life-here s r u cs k a c life is there

  acts_none : (o : Option ActNo) → o ≢ Some a → is_act a o ≡ false
  acts_none None ne = refl
  acts_none (Some b) ne = ne_eqb b.0 a.0 (λ e. ne (ap (λ j. Some (record { 0 = j })) e))

  pub stage : stage_of r s a life ≡ InBlock
  stage = ap (λ x. stage_by x (list_any (same_note (Unblocked a)) (untold_of r s)) (is_act a (running_of r life.proc))) no_notice
      ∙ ap (λ x. stage_by false x (is_act a (running_of r life.proc))) no_back
      ∙ ap (stage_by false false) (acts_none (running_of r life.proc) (idle life.proc))

  pub named : life.thread ≡ t
  named = l.named (ap is_running stage)

  pub stands : (n : ThreadNo) → t ≡ Some n → (thread_in (space_at r.state s) n).place ≡ place.Blocked
  stands n at = l.place n at ∙ ap (λ g. place_of g life.proc) stage

  made : (n : ThreadNo) → t ≡ Some n → n.0 < u.shared.state.lists.made
  made n at = own_made set e u cs h a.0 c is n.0 (carried_has u.shared.works c n at)

  placed_now : IsPlaced r.state s place.Blocked place.Carried t
  placed_now = own-placed r.state s place.Blocked place.Carried t known (λ n at. let below = made n at in let all = k.space.made in omega arith) stands

  noted : IsNoted s r q a after (Unblocked a)
  noted = record {
    lives = ap (λ o. put r.lives a.0 (option_map (with_hand (one_thread t)) o)) there;
    untold = get_or-set_same r.untold s.0 (untold_of r s ++ Unblocked a ∷ []) [] heard;
    none = (no_notice, no_back);
    apart = λ x ne. (refl, ne_eqb x.0 a.0 ne);
  }

  pub stage_a : stage_of q s a after ≡ Returned
  stage_a = noted-stage s r q a after (Unblocked a) noted life.proc ∙ ap (λ b. stage_by false b (is_act a (running_of q life.proc))) (eq-eqb a.0 a.0 refl)

  is_untold : IsUntold s r q u u a c after (Unblocked a)
  is_untold = record {
    noted = noted;
    acts = λ x y ne. refl;
    ran = λ x y at. (at, λ e. idle y (at ∙ ap (λ j. Some (record { 0 = j })) e));
    works = refl;
    places = λ n none. ap (λ (x : Thread). x.place) (placed_now.others n none);
    kept = λ n none. refl;
    space = own-fits u.shared r.state s place.Carried t known made
        (λ n at. subst (λ x. SitsIn x place.Carried) (sym (l.kept n at ∙ ap kept_of stage)) tt) k.space;
    active = let moves = placed_now.active in let none = counted-zero t in omega arith;
    mine = gone-life s u.shared (space_at r.state s) (space_at q.state s) (stage_of r s a life) (stage_of q s a after) c life life.thread life.idle l
        (ap is_gone stage_a) (ap kept_of stage_a ∙ sym (ap kept_of stage))
        (λ n at. placed_now.now n at ∙ sym (ap (λ g. place_of g life.proc) stage_a)) named;
  }

  pub stage_x : (x : ActNo) (y : ProcNo) → x.0 ≢ a.0 → stage_on q s x y ≡ stage_on r s x y
  stage_x = untold-stage set e u cs h s r k a c is q u after (Unblocked a) is_untold

  pub unblock-holds : Holds s q u cs
  unblock-holds = untold-holds set e u cs h s r k a c is q u after (Unblocked a) is_untold
