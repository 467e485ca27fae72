use Rattle.std.proofs.Common.{◌++◌, sym, ap}
use Rattle.std.specs.Prelude.{codes}
use Rattle.sa_svg.proofs.Appends.{where-ok}
use Rattle.sa_cells.specs.Words.{words_of}
use Rattle.sa_cells.proofs.Joined.{joined-as}
use Rattle.sa_cells.proofs.words.push_words.Goals as goal

pub returns-in-Ins : goal.returns-in-Ins
returns-in-Ins c =
    joined-as c.push_ins.result c.args.out.now.items c.push_ins.new.out.items _ (words_of c.args.in_copy c.args.instr c.args.what.now)
    (ap (words_of c.args.in_copy c.args.instr) (sym c.in-Ins.is)) c.push_ins.ensures

pub returns-in-Out : goal.returns-in-Out
returns-in-Out c =
    joined-as c.push_thread.result c.args.out.now.items c.push_thread.new.out.items _ (words_of c.args.in_copy c.args.instr c.args.what.now)
    (ap (words_of c.args.in_copy c.args.instr) (sym c.in-Out.is)) c.push_thread.ensures

pub returns-in-Run : goal.returns-in-Run
returns-in-Run c =
    joined-as c.push_ready.result c.args.out.now.items c.push_ready.new.out.items _ (words_of c.args.in_copy c.args.instr c.args.what.now)
    (ap (words_of c.args.in_copy c.args.instr) (sym c.in-Run.is)) c.push_ready.ensures

pub returns-in-Stop : goal.returns-in-Stop
returns-in-Stop c =
    joined-as c.push_stop.result c.args.out.now.items c.push_stop.new.out.items _ (words_of c.args.in_copy c.args.instr c.args.what.now)
    (ap (words_of c.args.in_copy c.args.instr) (sym c.in-Stop.is)) c.push_stop.ensures

pub returns-in-Block : goal.returns-in-Block
returns-in-Block c =
    joined-as c.push_block.result c.args.out.now.items c.push_block.new.out.items _ (words_of c.args.in_copy c.args.instr c.args.what.now)
    (ap (words_of c.args.in_copy c.args.instr) (sym c.in-Block.is)) c.push_block.ensures

pub returns-in-Unblock : goal.returns-in-Unblock
returns-in-Unblock c =
    joined-as c.push_unblock.result c.args.out.now.items c.push_unblock.new.out.items _ (words_of c.args.in_copy c.args.instr c.args.what.now)
    (ap (words_of c.args.in_copy c.args.instr) (sym c.in-Unblock.is)) c.push_unblock.ensures

pub returns-in-Cont : goal.returns-in-Cont
returns-in-Cont c =
    joined-as c.push_cont.result c.args.out.now.items c.push_cont.new.out.items _ (words_of c.args.in_copy c.args.instr c.args.what.now)
    (ap (words_of c.args.in_copy c.args.instr) (sym c.in-Cont.is)) c.push_cont.ensures

pub returns-in-Back : goal.returns-in-Back
returns-in-Back c =
    joined-as c.push_back.result c.args.out.now.items c.push_back.new.out.items _ (words_of c.args.in_copy c.args.instr c.args.what.now)
    (ap (words_of c.args.in_copy c.args.instr) (sym c.in-Back.is)) c.push_back.ensures

pub returns-in-Ready : goal.returns-in-Ready
returns-in-Ready c =
    joined-as c.push_ready-in-Ready.result c.args.out.now.items c.push_ready-in-Ready.new.out.items _ (words_of c.args.in_copy c.args.instr c.args.what.now)
    (ap (words_of c.args.in_copy c.args.instr) (sym c.in-Ready.is)) c.push_ready-in-Ready.ensures

pub returns-in-Take : goal.returns-in-Take
returns-in-Take c =
    joined-as c.push_list.result c.args.out.now.items c.push_list.new.out.items _ (words_of c.args.in_copy c.args.instr c.args.what.now)
    (ap (words_of c.args.in_copy c.args.instr) (sym c.in-Take.is)) c.push_list.ensures

pub returns-in-Free : goal.returns-in-Free
returns-in-Free c =
    joined-as c.push_list-in-Free.result c.args.out.now.items c.push_list-in-Free.new.out.items _ (words_of c.args.in_copy c.args.instr c.args.what.now)
    (ap (words_of c.args.in_copy c.args.instr) (sym c.in-Free.is)) c.push_list-in-Free.ensures

pub returns-in-Up : goal.returns-in-Up
returns-in-Up c =
    joined-as c.push_up.result c.args.out.now.items c.push_up.new.out.items _ (words_of c.args.in_copy c.args.instr c.args.what.now)
    (ap (words_of c.args.in_copy c.args.instr) (sym c.in-Up.is)) c.push_up.ensures

pub returns-in-Told : goal.returns-in-Told
returns-in-Told c =
    joined-as c.push_told.result c.args.out.now.items c.push_told.new.out.items _ (words_of c.args.in_copy c.args.instr c.args.what.now)
    (ap (words_of c.args.in_copy c.args.instr) (sym c.in-Told.is)) c.push_told.ensures

pub returns-in-Move : goal.returns-in-Move
returns-in-Move c =
    joined-as c.push_move.result c.args.out.now.items c.push_move.new.out.items _ (words_of c.args.in_copy c.args.instr c.args.what.now)
    (ap (words_of c.args.in_copy c.args.instr) (sym c.in-Move.is)) c.push_move.ensures

pub returns-in-Want : goal.returns-in-Want
returns-in-Want c =
    joined-as c.push_want.result c.args.out.now.items c.push_want.new.out.items _ (words_of c.args.in_copy c.args.instr c.args.what.now)
    (ap (words_of c.args.in_copy c.args.instr) (sym c.in-Want.is)) c.push_want.ensures

pub returns-in-Aim : goal.returns-in-Aim
returns-in-Aim c =
    joined-as c.push_aim.result c.args.out.now.items c.push_aim.new.out.items _ (words_of c.args.in_copy c.args.instr c.args.what.now)
    (ap (words_of c.args.in_copy c.args.instr) (sym c.in-Aim.is)) c.push_aim.ensures

pub returns-in-Line : goal.returns-in-Line
returns-in-Line c =
    joined-as c.push_line.result c.args.out.now.items c.push_line.new.out.items _ (words_of c.args.in_copy c.args.instr c.args.what.now)
    (ap (words_of c.args.in_copy c.args.instr) (sym c.in-Line.is)) c.push_line.ensures

pub returns-in-Fetch : goal.returns-in-Fetch
returns-in-Fetch c =
    joined-as c.push_fetch.result c.args.out.now.items c.push_fetch.new.out.items _ (words_of c.args.in_copy c.args.instr c.args.what.now)
    (ap (words_of c.args.in_copy c.args.instr) (sym c.in-Fetch.is)) c.push_fetch.ensures

pub returns-in-Fetched : goal.returns-in-Fetched
returns-in-Fetched c =
    joined-as c.push_page.result c.args.out.now.items c.push_page.new.out.items _ (words_of c.args.in_copy c.args.instr c.args.what.now)
    (ap (words_of c.args.in_copy c.args.instr) (sym c.in-Fetched.is)) c.push_page.ensures

pub returns-in-GiveBack : goal.returns-in-GiveBack
returns-in-GiveBack c =
    joined-as c.push_give_back.result c.args.out.now.items c.push_give_back.new.out.items _ (words_of c.args.in_copy c.args.instr c.args.what.now)
    (ap (words_of c.args.in_copy c.args.instr) (sym c.in-GiveBack.is)) c.push_give_back.ensures

pub returns-in-Idle : goal.returns-in-Idle
returns-in-Idle c =
    joined-as c.extend_from_slice.result c.args.out.now.items c.extend_from_slice.new.self.items _ (words_of c.args.in_copy c.args.instr c.args.what.now)
    (ap (words_of c.args.in_copy c.args.instr) (sym c.in-Idle.is)) (where-ok c.extend_from_slice.result c.extend_from_slice.new.self.items (c.args.out.now.items ++ codes "No list has a thread that could run.") c.args.out.now.items c.extend_from_slice.ensures.items)

pub returns-in-Spin : goal.returns-in-Spin
returns-in-Spin c =
    joined-as c.push_spin.result c.args.out.now.items c.push_spin.new.out.items _ (words_of c.args.in_copy c.args.instr c.args.what.now)
    (ap (words_of c.args.in_copy c.args.instr) (sym c.in-Spin.is)) c.push_spin.ensures

pub returns-in-Tick : goal.returns-in-Tick
returns-in-Tick c =
    joined-as c.extend_from_slice-in-Tick.result c.args.out.now.items c.extend_from_slice-in-Tick.new.self.items _ (words_of c.args.in_copy c.args.instr c.args.what.now)
    (ap (words_of c.args.in_copy c.args.instr) (sym c.in-Tick.is)) (where-ok c.extend_from_slice-in-Tick.result c.extend_from_slice-in-Tick.new.self.items (c.args.out.now.items ++ codes "The processor is nobody's, and its turn passes.") c.args.out.now.items c.extend_from_slice-in-Tick.ensures.items)
