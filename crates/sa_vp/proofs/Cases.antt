-- A turn does what the first case that applies does, a step too, and the run of a thread.
use Rattle.std.proofs.Common.{◌≡◌, ℕ, Bool, Option, Some, None, refl, sym, ap, ◌∙◌, slice_get}
use Rattle.std.specs.Prelude.{slice_index_or}
use Rattle.std.specs.Option.{option_map}
use Rattle.std.proofs.lemmas.Option.{none-some}
use Rattle.sa_base.specs.declared.number.ProcNo.{ProcNo}
use Rattle.sa_base.specs.declared.number.SpaceNo.{SpaceNo}
use Rattle.sa_base.specs.declared.number.ThreadNo.{ThreadNo}
use Rattle.sa_base.specs.declared.number.ActNo.{ActNo}
use Rattle.sa_base.specs.declared.number.IoNo.{IoNo}
use Rattle.sa_instr.specs.declared.instr.Instr.{Instr}
use Rattle.sa_laws.specs.State.{next_instr}
use Rattle.sa_virtual.specs.Virtual.{space_of, list_of}
use Rattle.sa_vp_model.specs.Board.{Board, list_in}
use Rattle.sa_vp_model.specs.Turn.{acts, proceeds, moves_on, has_had_its_turn, steps, steps_on, with_step, carried_on, thread, runs, runs_on, missed_page}

-- no I/O is due
pub none-due : (p : ProcNo) (due : Option IoNo) (placed : Option ActNo) (b : Board) → due ≡ None → slice_index_or b.placed p.0 None ≡ placed
    → proceeds p placed b ≡ acts p due b
none-due p due placed b none is = sym (ap (λ (o : Option IoNo). acts p o b) none ∙ ap (λ (o : Option ActNo). proceeds p o b) is)

-- one is placed, and has made its steps or has not
pub one-placed : (p : ProcNo) (due : Option IoNo) (a : ActNo) (had : Bool) (b : Board) → due ≡ None → slice_index_or b.placed p.0 None ≡ Some a
    → has_had_its_turn b a ≡ had → moves_on p a had b ≡ acts p due b
one-placed p due a had b none is has = sym (ap (λ (h : Bool). moves_on p a h b) has) ∙ none-due p due (Some a) b none is

-- a step, whose count comes first
pub stepped : (p : ProcNo) (a : ActNo) (first : Option ℕ) (t : Option ThreadNo) (b now : Board) → now ≡ with_step a b
    → slice_get (list_in now.work (space_of a) (list_of a)) 0 ≡ first → carried_on p now ≡ t → steps_on p a first t now ≡ steps p a b
stepped p a first t b now is due carried =
    ap (steps_on p a first t) is
    ∙ ap (λ (o : Option ℕ). steps_on p a o t (with_step a b)) (sym due ∙ ap (λ (x : Board). slice_get (list_in x.work (space_of a) (list_of a)) 0) is)
    ∙ ap (λ (o : Option ThreadNo). steps_on p a (slice_get (list_in b.work (space_of a) (list_of a)) 0) o (with_step a b)) (sym carried ∙ ap (carried_on p) is)

-- no number has no thread
pub no-number : (o : Option ℕ) → None ≡ option_map thread o → o ≡ None
no-number None e = refl
no-number (Some n) e = absurd (none-some (thread n) e)

-- a thread runs its next instruction, for which a page is missing or is not
pub ran : (p : ProcNo) (a : ActNo) (t : ThreadNo) (i : Instr) (page : Option ℕ) (s : SpaceNo) (b : Board) → s ≡ space_of a
    → i ≡ next_instr b.workload b.state s t → page ≡ missed_page b s i → runs_on p a t i page b ≡ runs p a t b
ran p a t i page s b at is misses =
    ap (λ (o : Option ℕ). runs_on p a t i o b) misses ∙ ap (λ (j : Instr). runs_on p a t j (missed_page b s j) b) is
    ∙ ap (λ (q : SpaceNo). runs_on p a t (next_instr b.workload b.state q t) (missed_page b q (next_instr b.workload b.state q t)) b) at
