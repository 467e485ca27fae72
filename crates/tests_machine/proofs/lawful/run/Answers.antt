use Rattle.std.proofs.Common.{[], refl, sym}
use Rattle.tests_machine.proofs.lawful.run.Goals as goal

pub returns : goal.returns
returns c = λ test. (
  c.in_ok-go.field-0,
  c.in_ok-go.ensures test c.args.w.now (sym c.slice.ensures.value) (record {
    events = [];
    last_is = refl;
    history = c.in_ok-kernel.ensures.lawful test;
  }),
)
