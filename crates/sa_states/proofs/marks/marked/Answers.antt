use Rattle.std.proofs.Common.{◌≡◌, ℕ, List, length, take, drop, ◌++◌, sym, subst, arith}
use Rattle.std.proofs.Math.Seq.{take-append_seam}
use Rattle.sa_explore_model.specs.Search.{AreMarked}
use Rattle.sa_states.proofs.Marking.{are-marked}
use Rattle.sa_states.proofs.marks.marked.Goals as goal

-- what was written over a whole list stands alone
written : {A : Type 0} (xs ys : List A) (n : ℕ) → n ≡ length xs → take n (xs ++ ys) ≡ xs
written xs ys n size = rw size (take-append_seam xs ys)

pub returns : goal.returns
returns c =
    let size : length c.sweep.new.marks ≡ length c.args.states.now = omega (arith, c.sweep.auto.marks) in
    subst (AreMarked c.args.processors c.args.states.now c.args.nexts.now)
    (sym (written c.sweep.new.marks (drop (length c.sweep.new.marks) c.loop.marks.items) c.loop.marks.len (omega (arith, c.loop.marks.ok.0))))
    (are-marked c.args.processors c.args.states.now c.args.nexts.now c.requires.turns c.sweep.new.marks size c.sweep.ensures.sound
    (c.sweep.ensures.all c.loop-test.false))
