-- What a reply says, or the first thing that is wrong with it: its words from left to right.
use Rattle.std.specs.Prelude.{ℕ, List, Ok, Result}
use Rattle.sa_base.specs.declared.refusal.Cause.{Cause}
use Rattle.sa_text.specs.Pieces.{pieces_of}
use Rattle.sa_trace.specs.Pieces.{and_then, unless, at_end}
use Rattle.sa_driven_model.specs.declared.reply.Reply.{Reply}
use Rattle.sa_driven_model.specs.declared.reply.Reply.TheVariants as replies
use Rattle.sa_replies.specs.declared.fields.Names.{Names}
use Rattle.sa_replies.specs.declared.word.Word.{Word}
use Rattle.sa_replies.specs.declared.word.Word.TheVariants.{Ins, Run, Ready, Cont, Back, Take, Free, Spin, Idle, Want, GiveBack, Line}
use Rattle.sa_replies.specs.Words.{word_in}
use Rattle.sa_replies.specs.Fields.{Pieces, Taken, taken, made, thread_in, thread_or_none_in, proc_in, demand_in}

-- after each word its fields
abbrev pub reply_at : Names → Word → Pieces → Taken Reply
reply_at names Ins pieces = Ok (replies.Ins, pieces)
reply_at names Run pieces = made (λ t. replies.Run t) (taken (thread_in names) pieces)
reply_at names Ready pieces = made (λ t. replies.Ready t) (taken (thread_in names) pieces)
reply_at names Cont pieces = made (λ t. replies.Cont t) (taken (thread_or_none_in names) pieces)
reply_at names Back pieces = Ok (replies.Back, pieces)
reply_at names Take pieces = made (λ l. replies.Take l) (taken (proc_in names) pieces)
reply_at names Free pieces = made (λ l. replies.Free l) (taken (proc_in names) pieces)
reply_at names Spin pieces = made (λ l. replies.Spin l) (taken (proc_in names) pieces)
reply_at names Idle pieces = Ok (replies.Idle, pieces)
reply_at names Want pieces = made (λ n. replies.Want n) (taken (demand_in names) pieces)
reply_at names GiveBack pieces = Ok (replies.GiveBack, pieces)
reply_at names Line pieces = made (λ q. replies.Line q) (taken (proc_in names) pieces)

-- and nothing after them
abbrev pub finished : Taken Reply → Result Reply Cause
finished r = and_then r (λ x. unless (at_end x.1) x.0)

abbrev pub said_by : Names → Pieces → Result Reply Cause
said_by names pieces = and_then (taken word_in pieces) (λ x. finished (reply_at names x.0 x.1))

-- the reply of a line
abbrev pub reply_in : Names → List ℕ → Result Reply Cause
reply_in names line = said_by names (pieces_of line)
