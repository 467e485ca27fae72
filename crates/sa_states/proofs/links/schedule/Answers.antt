use Rattle.std.proofs.Common.{◌≡◌, ℕ, ◌<◌, ◌++◌, [], ◌∷◌, None, Some, List, length, get_or, slice_get, reverse, arith, sym, ap, ◌∙◌, append_assoc}
use Rattle.std.proofs.lemmas.List.{reverse-append}
use Rattle.std.proofs.lemmas.Option.{slice_get-get_or}
use Rattle.sa_base.specs.declared.number.ProcNo.{ProcNo}
use Rattle.sa_explore_model.specs.declared.answer.State.{State}
use Rattle.sa_explore_model.specs.Search.{way_to}
use Rattle.sa_explore_model.proofs.Ways.{way-linked}
use Rattle.sa_states.proofs.links.schedule.Goals as goal

step : (states : List State) (k j : ℕ) (s : State) (back more : List ProcNo) → way_to states k ≡ way_to states j ++ reverse back
    → way_to states j ≡ way_to states s.before ++ s.proc ∷ [] → more ≡ back ++ s.proc ∷ [] → way_to states k ≡ way_to states s.before ++ reverse more
step states k j s back more was linked is =
    was
    ∙ ap (λ (ps : List ProcNo). ps ++ reverse back) linked
    ∙ append_assoc (way_to states s.before) (s.proc ∷ []) (reverse back)
    ∙ ap (λ (ps : List ProcNo). way_to states s.before ++ ps) (sym (ap reverse is ∙ reverse-append back (s.proc ∷ [])))

pub loop-at-preserved : goal.loop-at-preserved
loop-at-preserved c =
    let states = c.args.states.now in
    let at = c.loop-at.at in
    let some : 0 < at = omega (arith, c.loop-at-test.true) in
    let within : at < length states = c.loop-at.invariant.within in
    let s : State = get_or states at (record { before = 0; proc = record { 0 = 0 }; end = None }) in
    let is : slice_get states at ≡ Some s = slice_get-get_or states at (record { before = 0; proc = record { 0 = 0 }; end = None }) within in
    let below : s.before < at = c.requires.linked at s some is in
    record {
      within = omega (arith, below, within);
      way = step states c.args.state at s c.loop-at.back.items c.push.new.self.items c.loop-at.invariant.way
          (way-linked states at s c.requires.linked some is) c.in_ok-push.ensures.items;
    }
