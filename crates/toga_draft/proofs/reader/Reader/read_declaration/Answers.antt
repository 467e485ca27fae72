use Rattle.std.proofs.Common.{subst, sym}
use Rattle.toga_draft.specs.Lines.{declare_in, read_declaration}
use Rattle.toga_draft.specs.Reader.{IsReady, state_of}
use Rattle.toga_draft.specs.Reading.{Leaves}
use Rattle.toga_draft.proofs.Ready.{ready-opened}
use Rattle.toga_draft.proofs.reader.Reader.read_declaration.Goals as goal

pub declare_in-requires : goal.declare_in-requires
declare_in-requires c = subst IsReady (sym c.open.ensures) (ready-opened c.args.line (state_of c.args.self.now) c.requires)

pub returns : goal.returns
unfolding read_declaration
returns c =
    subst (λ s. Leaves (state_of c.declare_in.new.self) c.declare_in.result (declare_in c.args.line c.args.word.now c.args.operands.now c.args.declaration s))
    c.open.ensures c.declare_in.ensures
