use Rattle.std.proofs.Common.{◌≡◌, Bool, ◌∙◌, subst, refl, arith}
use Rattle.std.proofs.lemmas.Option.{slice_get_within}
use Rattle.sa_keys.specs.Key.{key_of}
use Rattle.sa_explore.specs.Doing.{states_of, HasMade, IsMade}
use Rattle.sa_explore.proofs.Doings.{all-made}
use Rattle.sa_explore.proofs.search.Search.turn_each.Goals as goal

pub loop-p-init : goal.loop-p-init
loop-p-init g c =
    let goes = c.requires.goes in
    record { done = c.requires.done; ahead = c.requires.ahead; within = slice_get_within (states_of c.args.self.now) c.args.at goes.0 goes.1; turns = refl; state = refl }

pub loop-p-preserved : goal.loop-p-preserved
loop-p-preserved g c =
    let made : HasMade g.U.UserLevel.calls g.U.Keyed.plain (key_of g.U.Keyed.value_key g.U.Keyed.context_key) c.args.scope.now c.loop-p.self c.turn.new.self c.args.at c.loop-p.p =
    subst (λ (b : Bool). IsMade g.U.UserLevel.calls g.U.Keyed.plain (key_of g.U.Keyed.value_key g.U.Keyed.context_key) c.args.scope.now b c.loop-p.self c.turn.new.self c.args.at c.loop-p.p)
    c.if-not-branch.false c.in_ok-turn.ensures.made in
    record {
      done = made.done;
      ahead = c.in_ok-turn.ensures.ahead;
      within = made.within;
      turns = made.turns ∙ c.loop-p.invariant.turns;
      state = made.state ∙ c.loop-p.invariant.state;
    }

pub returns-clause-made : goal.returns-clause-made
returns-clause-made g c =
    let level = (g.met.U.UserLevel g.world.𝓛 g.world.𝓜 g.world.𝓡 ((λ s x. x), (λ x. x), (λ x. x), λ x. x)) in
    let keyed = (g.met.U.Keyed g.world.𝓛 g.world.𝓜 g.world.𝓡 ((λ s x. x), (λ x. x), (λ x. x), λ x. x)) in
    let all : c.loop-p.p ≡ c.args.scope.now.workload.processors =
    (let above = c.loop-p-test.false in let below = c.loop-p.auto.p-end in let same = c.processors-p-end.ensures.value in omega (arith, above, below, same)) in (
      all-made g.U.UserLevel.calls g.U.Keyed.plain g.U.Keyed.is_made keyed.ignores_numbers g.U.UserLevel.stands level.keeps (key_of g.U.Keyed.value_key g.U.Keyed.context_key) c.args.scope.now c.ranges-2.ensures c.loop-p.self c.args.at c.loop-p.p c.loop-p.invariant.done all,
      c.loop-p.invariant.within,
    )
