-- What an activation runs, and whether it has something left to do.
use Rattle.std.specs.Prelude.{Bool, false, ◌||◌, ◌&&◌, nat_lt, nat_le, None, is_none}
use Rattle.sa_base.specs.declared.limits.TheConstants.{BULK_RETURN}
use Rattle.sa_base.specs.declared.context.Seen.{Seen}
use Rattle.sa_fast.specs.Hints.{usable}
use Rattle.sa_fast.specs.Threads.{load_of}
use Rattle.sa_driven_model.specs.declared.context.DrivenContext.{DrivenContext}
use Rattle.sa_driven_model.specs.declared.space.DrivenSpace.{DrivenSpace}
use Rattle.sa_driven_model.specs.Threads.{no_threads, share_one}

-- the context of a fresh activation
abbrev pub fresh : DrivenContext
fresh = record { thread = None; locks = 0; continues = false; hand = no_threads; lowers = false; inside = false }

-- some thread of its hand can be made ready
abbrev pub has_hand : DrivenSpace → DrivenContext → Bool
has_hand u c = share_one c.hand u.handed

-- it has a lock, or continues what was interrupted
abbrev pub is_bound : DrivenContext → Bool
is_bound c = nat_lt 0 c.locks || c.continues

-- the space announced less than it can use; or there is no thread, and enough activations are taken for them to be given
-- back
abbrev pub hints : DrivenSpace → Seen → DrivenContext → Bool
hints u seen c =
    nat_lt seen.demand (usable u.base.processors (load_of u.base.shared.threads)) || (is_none c.thread && nat_le BULK_RETURN seen.taken)

abbrev pub with_inside : DrivenContext → Bool → DrivenContext
with_inside c inside = record c { inside = inside }

-- WHETHER SOMETHING IS LEFT TO DO, at the end of a step: after most of them it is decided what comes next
abbrev pub settled : DrivenSpace → Seen → DrivenContext → DrivenContext
settled u seen c = with_inside c (has_hand u c || is_bound c || hints u seen c)

-- after an instruction after which the thread runs on no hint counts
abbrev pub goes_on : DrivenSpace → DrivenContext → DrivenContext
goes_on u c = with_inside c (has_hand u c || is_bound c)

-- a context that says it is idle has nothing left but the threads in its hand
abbrev pub says_idle : DrivenSpace → DrivenContext → DrivenContext
says_idle u c = with_inside c (has_hand u c)
