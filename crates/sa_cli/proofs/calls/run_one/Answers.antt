use Rattle.std.proofs.Common.{Some, sym, ap, subst, ◌∙◌, rules, arith}
use Rattle.sa_command.specs.declared.command.Command.TheVariants.{Run, Load, Migrate, Check, Vp, Debug, Explore, Kernel}
use Rattle.sa_cli.specs.declared.outcome.Status.{Status}
use Rattle.sa_cli.specs.Outcome.{RanHere}
use Rattle.sa_cli.specs.Streams.{UsesStreams, streams, world_by}
use Rattle.sa_cli.specs.Commands.{MigrateAnswers, CheckAnswers, SearchesNothing}
use Rattle.sa_cli.specs.Exploring.{ExploreAnswers}
use Rattle.sa_cli.proofs.TopCalls.{does-along, does, does-so, does-nothing}
use Rattle.sa_io.proofs.InputLemmas.{loses-nothing}
use Rattle.sa_cli.proofs.calls.run_one.Goals as goal

pub returns-in-None-clause-does : goal.returns-in-None-clause-does
returns-in-None-clause-does g c = does-along _ _ (sym c.in-None.is) (does-nothing (search rules) (search rules))

pub run_text-requires : goal.run_text-requires
run_text-requires g c =
    let run = c.in-Some-Run in
    let range = c.requires.range (Run run.schedule run.budget run.user_level) (run.is ∙ ap Some (rw run.is at run.field-0-is)) in
    record { some = range.least; few = range.most }

pub returns-in-Some-Run-clause-does : goal.returns-in-Some-Run-clause-does
returns-in-Some-Run-clause-does g c =
    let run = c.in-Some-Run in
    let said = c.run_text.ensures in
    does-along _ _ (sym (run.is ∙ ap Some (rw run.is at run.field-0-is)))
    (does (Run run.schedule run.budget run.user_level) tt said.here (λ load. absurd load) said.uses said.answers)

pub run_generated-requires : goal.run_generated-requires
run_generated-requires g c =
    let load = c.in-Some-Load in
    let range = c.requires.range (Load load.number load.budget) (load.is ∙ ap Some (rw load.is at load.field-0-is)) in
    record { some = range.least; few = range.most }

pub returns-in-Some-Load-clause-does : goal.returns-in-Some-Load-clause-does
returns-in-Some-Load-clause-does g c =
    let load = c.in-Some-Load in
    let said = c.run_generated.ensures in
    let left = g.S.Source.left c.args.source.now in
    let reads = g.S.Source.faults c.args.source.now in
    does-along _ _ (sym (load.is ∙ ap Some (rw load.is at load.field-0-is)))
    (does (Load load.number load.budget) tt said.here (λ load. search rules)
    (record { unwritten = said.unwritten; lost = loses-nothing 0 left; reads_counted = omega arith; writes_counted = said.writes_counted })
    (said.answers left reads))

pub migrate-requires : goal.migrate-requires
migrate-requires g c =
    let migrates = c.in-Some-Migrate in (c.requires.range (Migrate migrates.slice) (migrates.is ∙ ap Some (rw migrates.is at migrates.field-0-is))).most

pub returns-in-Some-Migrate-clause-does : goal.returns-in-Some-Migrate-clause-does
returns-in-Some-Migrate-clause-does g c =
    let told = world_by g.S.Source.left g.K.Sink.taken g.S.Source.faults g.K.Sink.faults in
    let migrates = c.in-Some-Migrate in
    let said = c.migrate.ensures in
    let outcome = c.nothing-in-Some-Migrate.ensures in
    let before = told (streams c.args.source.now c.args.sink.now) in
    let after = told (streams c.migrate.new.source c.migrate.new.sink) in
    does-along _ _ (sym (migrates.is ∙ ap Some (rw migrates.is at migrates.field-0-is)))
    (does (Migrate migrates.slice) tt (subst RanHere (sym outcome.ran) tt) (λ load. absurd load) (subst (UsesStreams _ _ _ _) (sym outcome.status) said.uses)
    (outcome.ran, subst (λ (v : Status). MigrateAnswers migrates.slice before after v) (sym outcome.status) said.answers))

pub returns-in-Some-Check-clause-does : goal.returns-in-Some-Check-clause-does
returns-in-Some-Check-clause-does g c =
    let told = world_by g.S.Source.left g.K.Sink.taken g.S.Source.faults g.K.Sink.faults in
    let checks = c.in-Some-Check in
    let said = c.check_texts.ensures in
    let outcome = c.nothing-in-Some-Check.ensures in
    let before = told (streams c.args.source.now c.args.sink.now) in
    let after = told (streams c.check_texts.new.source c.check_texts.new.sink) in
    does-along _ _ (sym (checks.is ∙ ap Some (rw checks.is at checks.field-0-is)))
    (does (Check checks.rules) tt (subst RanHere (sym outcome.ran) tt) (λ load. absurd load) (subst (UsesStreams _ _ _ _) (sym outcome.status) said.uses)
    (outcome.ran, subst (λ (v : Status). CheckAnswers checks.rules before after v) (sym outcome.status) said.answers))

pub run_virtual-requires : goal.run_virtual-requires
run_virtual-requires g c =
    let vp = c.in-Some-Vp in
    let range = c.requires.range (Vp vp.schedule vp.budget) (vp.is ∙ ap Some (rw vp.is at vp.field-0-is)) in
    record { some = range.least; few = range.most }

pub returns-in-Some-Vp-clause-does : goal.returns-in-Some-Vp-clause-does
returns-in-Some-Vp-clause-does g c =
    let vp = c.in-Some-Vp in
    let said = c.run_virtual.ensures in
    does-along _ _ (sym (vp.is ∙ ap Some (rw vp.is at vp.field-0-is)))
    (does (Vp vp.schedule vp.budget) tt said.here (λ load. absurd load) said.uses said.answers)

pub debug_texts-requires : goal.debug_texts-requires
debug_texts-requires g c =
    let debug = c.in-Some-Debug in
    let range = c.requires.range (Debug debug.budget) (debug.is ∙ ap Some (rw debug.is at debug.field-0-is)) in
    record { some = range.least; few = range.most }

pub returns-in-Some-Debug-clause-does : goal.returns-in-Some-Debug-clause-does
returns-in-Some-Debug-clause-does g c =
    let debug = c.in-Some-Debug in
    let said = c.debug_texts.ensures in
    does-along _ _ (sym (debug.is ∙ ap Some (rw debug.is at debug.field-0-is)))
    (does (Debug debug.budget) tt said.here (λ load. absurd load) said.uses said.answers)

pub explore_text-requires : goal.explore_text-requires
explore_text-requires g c =
    let explores = c.in-Some-Explore in
    let range =
    c.requires.range (Explore explores.states explores.user_level explores.give) (explores.is ∙ ap Some (rw explores.is at explores.field-0-is)) in
    record { some = range.least; few = range.most }

pub returns-in-Some-Explore-clause-does : goal.returns-in-Some-Explore-clause-does
returns-in-Some-Explore-clause-does g c =
    let told = world_by g.S.Source.left g.K.Sink.taken g.S.Source.faults g.K.Sink.faults in
    let explores = c.in-Some-Explore in
    let said = c.explore_text.ensures in
    let outcome = c.nothing-in-Some-Explore.ensures in
    let before = told (streams c.args.source.now c.args.sink.now) in
    let after = told (streams c.explore_text.new.source c.explore_text.new.sink) in
    does-along _ _ (sym (explores.is ∙ ap Some (rw explores.is at explores.field-0-is)))
    (does (Explore explores.states explores.user_level explores.give) tt (subst RanHere (sym outcome.ran) tt) (λ load. absurd load)
    (subst (UsesStreams _ _ _ _) (sym outcome.status) said.uses)
    (outcome.ran, subst (λ (v : Status). ExploreAnswers explores.states explores.user_level explores.give before after v) (sym outcome.status) said.answers))

-- `explore` searches
pub returns-in-Some-Explore-clause-untold : goal.returns-in-Some-Explore-clause-untold
returns-in-Some-Explore-clause-untold g c = λ none.
    let explores = c.in-Some-Explore in absurd (subst SearchesNothing (explores.is ∙ ap Some (rw explores.is at explores.field-0-is)) none)

pub run_by_replies-requires : goal.run_by_replies-requires
run_by_replies-requires g c =
    let kernel = c.in-Some-Kernel in
    let range = c.requires.range (Kernel kernel.schedule kernel.budget) (kernel.is ∙ ap Some (rw kernel.is at kernel.field-0-is)) in
    record { some = range.least; few = range.most }

pub returns-in-Some-Kernel-clause-does : goal.returns-in-Some-Kernel-clause-does
returns-in-Some-Kernel-clause-does g c =
    let kernel = c.in-Some-Kernel in
    let said = c.run_by_replies.ensures in
    does-along _ _ (sym (kernel.is ∙ ap Some (rw kernel.is at kernel.field-0-is)))
    (does-so (Kernel kernel.schedule kernel.budget) said.here (λ load. absurd load) said.unwritten said.lost said.reads said.writes said.answers)
