use Rattle.std.proofs.Common.{refl, ap, sym, ◌∙◌, map, Some, slice_get, ◌≡◌}
use Rattle.std.specs.Option.{unwrap_or, option_map}
use Rattle.std.proofs.lemmas.Option.{slice_get-map, slice_get_read}
use Rattle.std.proofs.lemmas.Bool.{ltb-true}
use Rattle.sa_sched.proofs.Lists.{slice_get-drop, drop-next}
use Rattle.sa_sched.proofs.schedule.next_given.Goals as goal

pub returns-in-Some-clause-processor : goal.returns-in-Some-clause-processor
returns-in-Some-clause-processor c =
    let read : slice_get c.args.procs.now c.args.next.now ≡ Some c.in-Some.proc.now =
    slice_get_read c.args.procs.now _ c.args.next.now c.in-Some.proc.now refl (ltb-true _ _ (sym c.in-Some.ensures.lookup.0)) c.in-Some.ensures.lookup.1 in
    ap (λ o. unwrap_or o c.args.turn)
    (sym (slice_get-drop (map (λ p. p.0) c.args.procs.now) c.args.next.now ∙ slice_get-map (λ p. p.0) c.args.procs.now c.args.next.now
    ∙ ap (option_map (λ p. p.0)) read))

pub returns-in-Some-clause-rest : goal.returns-in-Some-clause-rest
returns-in-Some-clause-rest c = drop-next (map (λ p. p.0) c.args.procs.now) c.args.next.now
