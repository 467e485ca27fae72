-- The lines of questions, and of what is told of threads.
use Rattle.std.specs.Prelude.{ℕ, List, [], ◌++◌, codes, decimal, Option, Some, None}
use Rattle.sa_base.specs.declared.number.ProcNo.{ProcNo}
use Rattle.sa_base.specs.declared.number.SpaceNo.{SpaceNo}
use Rattle.sa_base.specs.declared.number.ThreadNo.{ThreadNo}
use Rattle.sa_laws.specs.declared.place.Place.{Place}
use Rattle.sa_laws.specs.declared.place.Place.TheVariants.{Waiting, Done}
use Rattle.sa_asked.specs.declared.question.Question.{Question}

-- a number after a space, and a thread after a space, or a dash for none
abbrev pub number_text : ℕ → List ℕ
number_text n = codes " " ++ decimal n

abbrev pub thread_text : Option ThreadNo → List ℕ
thread_text None = codes " -"
thread_text (Some t) = number_text t.0

-- a question: the event, its processor, the space, the activation, its thread, the demand, and how many activations are taken
abbrev pub question_text : ℕ → ProcNo → Question → List ℕ
question_text event p q =
    codes "ask" ++ number_text event ++ number_text p.0 ++ number_text q.space.0 ++ number_text q.act.0 ++ thread_text q.thread
    ++ number_text q.demand ++ number_text q.taken ++ codes "\n"

-- a thread of a space, of this program, can be made ready
abbrev pub hand_text : SpaceNo → ThreadNo → ℕ → List ℕ
hand_text s t program = codes "hand" ++ number_text s.0 ++ number_text t.0 ++ number_text program ++ codes "\n"

-- a thread that is in this place after its instruction waits, or is done
abbrev pub place_text : SpaceNo → ThreadNo → Place → List ℕ
place_text s t Waiting = codes "waiting" ++ number_text s.0 ++ number_text t.0 ++ codes "\n"
place_text s t Done = codes "done" ++ number_text s.0 ++ number_text t.0 ++ codes "\n"
place_text s t _ = []
