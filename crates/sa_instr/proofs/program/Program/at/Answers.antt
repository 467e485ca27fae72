use Rattle.std.proofs.Common.{◌≡◌, ℕ, ◌<◌, List, length, get_or, refl, ap, subst, ◌∙◌}
use Rattle.std.proofs.lemmas.List.{get_or_default}
use Rattle.std.proofs.lemmas.Option.{slice_get_read}
use Rattle.sa_instr.specs.declared.instr.Instr.{Instr}
use Rattle.sa_instr.specs.declared.instr.Instr.TheVariants.{End}
use Rattle.sa_instr.specs.Local.{instr_at}
use Rattle.sa_instr.specs.Program.{IsProgram}
use Rattle.sa_instr.proofs.PlaceLemmas.{next_inside}
use Rattle.sa_instr.proofs.program.Program.at.Goals as goal

-- the instruction that is read is the one at the place
read_at : (p : List Instr) (pc : ℕ) (i : Instr) → pc < length p → i ≡ get_or p pc i → i ≡ instr_at p pc
read_at p pc i inside is = is ∙ get_or_default p pc i End inside

pub returns-clause-at : goal.returns-clause-at
returns-clause-at c =
    slice_get_read c.args.self.now _ c.args.pc c.index.result.now refl c.requires (c.index.ensures ∙ ap (λ p. get_or p c.args.pc c.index.result.now) c.self.view_is)

pub returns-clause-instr : goal.returns-clause-instr
returns-clause-instr c =
    read_at c.args.self.now c.args.pc c.index.result.now c.requires (c.index.ensures ∙ ap (λ p. get_or p c.args.pc c.index.result.now) c.self.view_is)

pub returns-clause-next : goal.returns-clause-next
returns-clause-next c = λ other.
    let p = c.args.self.now in
    next_inside p c.args.pc (subst IsProgram c.self.view_is c.self.invariant) c.requires
    (λ ends. other (read_at p c.args.pc c.index.result.now c.requires (c.index.ensures ∙ ap (λ q. get_or q c.args.pc c.index.result.now) c.self.view_is) ∙ ends))
