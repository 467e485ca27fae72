-- The texts of replies.
use Rattle.std.specs.Prelude.{ℕ, List, ◌++◌, codes, decimal}
use Rattle.std.specs.List.{flat_map}
use Rattle.sa_base.specs.declared.number.ProcNo.{ProcNo}
use Rattle.sa_instr.specs.declared.instr.Reg.{Reg}
use Rattle.sa_instr.specs.Regs.{reg_value}
use Rattle.sa_laws.specs.declared.place.Place.{Place}
use Rattle.sa_laws.specs.declared.place.Place.TheVariants.{Running, Ready, Blocked, Waiting, Carried, Done}
use Rattle.sa_trace.specs.TraceText.{end_word}
use Rattle.sa_debug.specs.declared.script.command.Point.{Point}
use Rattle.sa_debug.specs.declared.script.reply.View.{View}
use Rattle.sa_debug.specs.declared.script.reply.Reply.{Reply}
use Rattle.sa_debug.specs.declared.script.reply.Reply.TheVariants.{Accepted, Full, NotThere, Event, Ended, AtBreak, Halted, Shown}

-- a number after a space
abbrev pub number_text : ℕ → List ℕ
number_text n = codes " " ++ decimal n

-- what a register holds
abbrev pub register_text : List ℕ → Reg → List ℕ
register_text regs reg = number_text (reg_value regs reg)

abbrev pub break_text : ProcNo → Point → List ℕ
break_text p x =
    codes "break" ++ number_text p.0 ++ number_text x.space.0 ++ number_text x.thread.0 ++ number_text x.place

abbrev pub place_text : Place → List ℕ
place_text (Running p) = codes "running" ++ number_text p.0
place_text Ready = codes "ready"
place_text Blocked = codes "blocked"
place_text Waiting = codes "waiting"
place_text Carried = codes "carried"
place_text Done = codes "done"

-- a thread: its place, the place of its next instruction, and the eight registers
abbrev pub view_text : View → List ℕ
view_text view = place_text view.place ++ number_text view.pc ++ flat_map number_text view.regs

abbrev pub reply_words : Reply → List ℕ
reply_words Accepted = codes "ok"
reply_words Full = codes "full"
reply_words NotThere = codes "none"
reply_words (Event event) = codes "event" ++ number_text event
reply_words (Ended end) = codes "ended " ++ end_word end
reply_words (AtBreak p x) = break_text p x
reply_words Halted = codes "halted"
reply_words (Shown view) = view_text view

-- a reply, and a line feed
abbrev pub reply_text : Reply → List ℕ
reply_text reply = reply_words reply ++ codes "\n"
