use Rattle.std.proofs.Common.{◌≡◌, ◌<◌, ◌+◌, [], ◌∷◌, None, Some, length, get_or, slice_get, arith, ap, ◌∙◌, length-append}
use Rattle.std.proofs.lemmas.Option.{slice_get-get_or}
use Rattle.sa_explore_model.specs.declared.answer.State.{State}
use Rattle.sa_explore_model.specs.Search.{way_to}
use Rattle.sa_explore_model.proofs.Ways.{way-linked}
use Rattle.sa_states.proofs.links.depth_of.Goals as goal

pub loop-at-preserved : goal.loop-at-preserved
loop-at-preserved c =
    let states = c.args.states.now in
    let at = c.loop-at.at in
    let some : 0 < at = omega (arith, c.loop-at-test.true) in
    let within : at < length states = c.loop-at.invariant.within in
    let s : State = get_or states at (record { before = 0; proc = record { 0 = 0 }; end = None }) in
    let is : slice_get states at ≡ Some s = slice_get-get_or states at (record { before = 0; proc = record { 0 = 0 }; end = None }) within in
    let below : s.before < at = c.requires.linked at s some is in
    let way : length (way_to states at) ≡ length (way_to states s.before) + 1 =
    ap length (way-linked states at s c.requires.linked some is) ∙ length-append (way_to states s.before) (s.proc ∷ []) in
    let short = c.loop-at.invariant.short in
    let was = c.loop-at.invariant.way in
    record {
      within = omega (arith, below, within);
      short = omega (arith, below, short);
      way = omega (arith, way, was);
    }
