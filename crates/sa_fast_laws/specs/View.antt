-- What the relation between package and history looks at in a context: nothing of its state but this.
use Rattle.std.specs.Prelude.{ℕ, Bool, true, false, ◌&&◌, ◌||◌, not, is_none, is_some, nat_le, List, [], ◌∷◌, Option, Some, None, slice_get}
use Rattle.sa_base.specs.declared.number.ThreadNo.{ThreadNo}
use Rattle.sa_code.specs.declared.code.Op.{Op}
use Rattle.sa_code.specs.declared.code.Op.TheVariants.{Yield}
use Rattle.sa_code.specs.declared.state.Frame.{Frame}
use Rattle.sa_copies.specs.Copies.{package_ops}
use Rattle.sa_package_model.specs.Context.{carried_by, section_in, stands_inside, has_some, is_left}
use Rattle.sa_package_model.specs.declared.context.Context.{Context}
use Rattle.sa_package_model.specs.declared.context.ContextState.{ContextState}
use Rattle.sa_package_model.specs.declared.context.ContextState.TheVariants.{Code, Work, Hint, Return, User, Look}

pub record View : Type 0 where
  -- the thread that it carries; the section in which it is, or in whose copy
  pub carried : Option ThreadNo
  pub section : Option Frame
  -- the sections that it has to continue, and the name of its work list
  pub sections : List Frame
  pub work : Option ThreadNo
  -- it continues a section in its copy, and is at the copy's end
  pub copies : Bool
  pub yields : Bool
  -- it is inside the package; how often it has looked for a thread in vain
  pub inside : Bool
  pub looks : ℕ
  -- something is left to do, as its state tells; its sections to continue may be there
  pub left : Bool
  pub lone : Bool

-- it has sections to continue or threads to make ready
abbrev pub has_left : View → Bool
has_left v = has_some v.sections || is_some v.work

-- it has no thread and nothing else to do
abbrev pub is_idle : View → Bool
is_idle v = not v.inside && is_none v.carried

-- FastThreads' contexts. The copies are from place 8 of the code on, and each ends with a yield.
abbrev pub in_copy : ContextState → Bool
in_copy (Code f) = nat_le 8 f.pc
in_copy _ = false

abbrev pub is_yield_op : Option Op → Bool
is_yield_op (Some Yield) = true
is_yield_op _ = false

abbrev pub at_yield : ContextState → Bool
at_yield (Code f) = is_yield_op (slice_get package_ops f.pc)
at_yield _ = false

abbrev pub looks_of : ContextState → ℕ
looks_of (Look looks) = looks
looks_of _ = 0

-- What is left to do agrees with the state: in work something is; before a hint and a return, at an instruction and at a
-- look nothing is.
abbrev pub left_at : ContextState → Bool → Bool
left_at (Code f) left = left
left_at (Work t) left = true
left_at (Hint t) left = false
left_at Return left = false
left_at (User t) left = false
left_at (Look looks) left = false

-- Sections to continue has only a context that carries no thread, in work, or one that continues a section in its copy.
abbrev pub may_continue : ContextState → Bool
may_continue (Code f) = nat_le 8 f.pc
may_continue (Work None) = true
may_continue _ = false

abbrev pub is_lone : ContextState → List Frame → Bool
is_lone state [] = true
is_lone state (f ∷ fs) = may_continue state

abbrev pub view : Context → View
view c = record {
  carried = carried_by c.state;
  section = section_in c.state;
  sections = c.sections;
  work = c.work;
  copies = in_copy c.state;
  yields = at_yield c.state;
  inside = stands_inside c.state;
  looks = looks_of c.state;
  left = left_at c.state (is_left c);
  lone = is_lone c.state c.sections;
}
