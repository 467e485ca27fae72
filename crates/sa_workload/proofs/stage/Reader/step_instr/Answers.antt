use Rattle.std.proofs.Common.{◌≡◌, ◌≢◌, ℕ, ◌+◌, Bool, not, ◌&&◌, cond, List, [], ◌∷◌, ◌++◌, Option, Some, Ok, Err, ◌∙◌, sym, ap, subst, length, arith}
use Rattle.std.proofs.lemmas.Bool.{ne_eqb}
use Rattle.std.proofs.lemmas.List.{length_push}
use Rattle.sa_instr.specs.declared.instr.Instr.{Instr}
use Rattle.sa_spaces.specs.Space.{SpaceView}
use Rattle.sa_workload.specs.declared.stage.Stage.{Stage}
use Rattle.sa_workload.specs.Position.{HeaderView, Draft, AtInstr, IsReached}
use Rattle.sa_workload.specs.Steps.{after_program, after_instr, with_program}
use Rattle.sa_workload.specs.Next.{fields_of, is_end, step_instr}
use Rattle.sa_workload.specs.Stage.{machine_of, draft_of, at_stage, AreNumbersOf}
use Rattle.sa_workload.proofs.calls.Calls.{program_whole, space_whole}
use Rattle.sa_workload.proofs.stage.Reader.step_instr.Goals as goal

-- behind an instruction that is not the last of its program comes another
program_on : (m : HeaderView) (spaces : List SpaceView) (d : Draft) (len : ℕ) (instrs after : List Instr) (i : Instr) (made : Option Instr) → made ≡ Some i
    → length instrs + 1 ≢ len → after ≡ instrs ++ i ∷ [] → step_instr m spaces d len instrs made ≡ Ok (AtInstr m spaces d len after)
program_on m spaces d len instrs after i made is other added =
    let more = instrs ++ i ∷ [] in
    let longer : length more ≢ len = omega (arith, length_push instrs i) in
    ap (step_instr m spaces d len instrs) is
    ∙ ap (λ (b : Bool). cond (b && not (is_end i)) (Err 9) (Ok (after_instr m spaces d len more))) (ne_eqb (length instrs + 1) len other)
    ∙ ap (λ (b : Bool). Ok (cond b (after_program m spaces (with_program d more)) (AtInstr m spaces d len more))) (ne_eqb (length more) len longer)
    ∙ ap (λ (xs : List Instr). Ok (AtInstr m spaces d len xs)) (sym added)

pub end_program-requires-clause-program : goal.end_program-requires-clause-program
end_program-requires-clause-program c =
    let last : length c.args.self.now.instrs.items + 1 ≡ c.args.self.now.len = grind (arith, c.len.ensures, c.from.ensures) in
    rw c.in_ok-push-2.ensures.items
    (program_whole c.args.versions (machine_of c.args.self.now.header) c.args.self.now.spaces.items
    (draft_of c.args.self.now.draft) c.args.self.now.len c.args.self.now.instrs.items c.args.word.now c.args.numbers.now c.in_ok-instr.instr
    (subst (λ (s : Stage). IsReached c.args.versions (at_stage c.args.self.now s)) c.requires.stage c.requires.reached) c.requires.known
    (subst (λ (s : Stage). AreNumbersOf (fields_of c.args.versions (at_stage c.args.self.now s) c.args.word.now) c.args.numbers.now) c.requires.stage
    c.requires.read)
    (sym c.in_ok-instr.ensures.ok_part ∙ c.instr_in.ensures) last (sym c.if-not-is_end.ensures))

pub end_program-requires-clause-space : goal.end_program-requires-clause-space
end_program-requires-clause-space c =
    let last : length c.args.self.now.instrs.items + 1 ≡ c.args.self.now.len = grind (arith, c.len.ensures, c.from.ensures) in
    rw c.in_ok-push-2.ensures.items
    (space_whole c.args.versions (machine_of c.args.self.now.header) c.args.self.now.spaces.items
    (draft_of c.args.self.now.draft) c.args.self.now.len c.args.self.now.instrs.items c.args.word.now c.args.numbers.now c.in_ok-instr.instr
    (subst (λ (s : Stage). IsReached c.args.versions (at_stage c.args.self.now s)) c.requires.stage c.requires.reached) c.requires.known
    (subst (λ (s : Stage). AreNumbersOf (fields_of c.args.versions (at_stage c.args.self.now s) c.args.word.now) c.args.numbers.now) c.requires.stage
    c.requires.read)
    (sym c.in_ok-instr.ensures.ok_part ∙ c.instr_in.ensures) last (sym c.if-not-is_end.ensures))

pub returns-then-len-from : goal.returns-then-len-from
returns-then-len-from c =
    let other : length c.args.self.now.instrs.items + 1 ≢ c.args.self.now.len = omega (arith, c.len.ensures, c.from.ensures, c.if-len-from.true) in
    rw c.requires.stage
    (program_on (machine_of c.args.self.now.header) c.args.self.now.spaces.items (draft_of c.args.self.now.draft) c.args.self.now.len
    c.args.self.now.instrs.items c.push.new.self.items c.in_ok-instr.instr _ (sym (sym c.in_ok-instr.ensures.ok_part ∙ c.instr_in.ensures)) other
    c.in_ok-push.ensures.items)
