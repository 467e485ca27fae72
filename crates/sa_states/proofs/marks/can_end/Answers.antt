use Rattle.std.proofs.Common.{◌≡◌, ◌+◌, ◌*◌, ◌<◌, true, false, None, get_or, inl, inr, refl, arith}
use Rattle.std.proofs.lemmas.Option.{get_or_from_slice_get}
use Rattle.std.proofs.lemmas.Bool.{cases_lt}
use Rattle.sa_explore_model.specs.declared.answer.State.{State}
use Rattle.sa_states.proofs.Marking.{to-within, leads}
use Rattle.sa_states.proofs.marks.can_end.Goals as goal

pub returns-then-marks-nexts : goal.returns-then-marks-nexts
returns-then-marks-nexts c =
    let nexts = c.args.nexts.now in
    let marks = c.args.marks.now in
    let proc = c.loop-proc.proc in
    let few : proc < c.args.processors = omega (arith, c.from-proc-end.ensures) in
    let below = to-within c.args.processors c.args.states.now nexts c.requires.turns marks c.args.state proc c.requires.within few in
    let size = c.requires.size in
    let on : get_or marks (get_or nexts (c.args.state * c.args.processors + proc) 0) false ≡ true = rw c.from.ensures at c.if-marks-nexts.true in (
      (λ yes. leads c.args.processors c.args.states.now nexts c.requires.turns marks c.args.state proc c.requires.within few (omega arith) on),
      (λ near. refl),
    )

pub loop-proc-preserved : goal.loop-proc-preserved
loop-proc-preserved c = λ p to below is on. elim (cases_lt p c.loop-proc.proc) [
  | inl less ↦ c.loop-proc.invariant p to less is on
  | inr more ↦
      (let place = c.args.state * c.args.processors + p in
      let here : p ≡ c.loop-proc.proc = omega arith in
      let off = c.if-marks-nexts.false in
      let at : get_or c.args.nexts.now place 0 ≡ to = get_or_from_slice_get c.args.nexts.now place to 0 is in
      let marked : get_or c.args.marks.now to false ≡ true = get_or_from_slice_get c.args.marks.now to true false on in
      let same = c.from.ensures in
      cc)
]

pub returns : goal.returns
returns c = (
  (λ no. absurd (cc)),
  (λ near. elim near [
    | inl over ↦
        (let any : State = record { before = 0; proc = record { 0 = 0 }; end = None } in
        let is = get_or_from_slice_get c.args.states.now c.args.state over.state any over.is in
        let none = c.if-is_some.false in
        let some = c.is_some.ensures in
        let ends = over.ends in
        cc)
    | inr next ↦
        absurd (c.loop-proc.invariant next.0.proc next.0.to (let few = next.0.within in omega (arith, c.from-proc-end.ensures)) next.0.is next.1)
  ]),
)
