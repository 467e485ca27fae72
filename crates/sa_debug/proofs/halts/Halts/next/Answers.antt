use Rattle.std.proofs.Common.{◌≡◌, ℕ, ◌+◌, ◌%◌, ◌∷◌, ◌∙◌, sym, ap, drop, arith}
use Rattle.sa_assign.specs.Reaim.{proc_no}
use Rattle.sa_debug.specs.Order.{goes, in_order}
use Rattle.sa_debug.proofs.Ordering.{order-next, find-next, find-here, find-none, found-first, missed-first}
use Rattle.sa_debug.proofs.halts.Halts.next.Goals as goal

pub returns-then-goes : goal.returns-then-goes
returns-then-goes c =
    sym (found-first (goes c.args.self.now) c.args.first c.args.processors c.requires.first (sym c.goes.ensures ∙ c.if-goes.true))

pub loop-k-init : goal.loop-k-init
loop-k-init c =
    missed-first (goes c.args.self.now) c.args.first c.args.processors c.requires.first (sym c.goes.ensures ∙ c.if-goes.false)

pub returns-then-goes-2 : goal.returns-then-goes-2
returns-then-goes-2 c =
    let rest = drop (c.loop-k.k + 1) (in_order c.args.first c.args.processors) in
    let is : c.cyclic-p.result ≡ (c.args.first + c.loop-k.k) % c.args.processors =
    c.cyclic-p.ensures.cyclic ∙ ap (λ (n : ℕ). n % c.args.processors) (omega (arith, c.from.ensures, c.from-in-loop-k.ensures)) in
    sym (c.loop-k.invariant ∙ find-here (goes c.args.self.now) (drop c.loop-k.k (in_order c.args.first c.args.processors)) (proc_no c.cyclic-p.result) rest
    (order-next c.args.first c.args.processors c.loop-k.k c.loop-k-test.true ∙ ap (λ i. proc_no i ∷ rest) (sym is))
    (sym c.goes-in-loop-k.ensures ∙ c.if-goes-2.true))

pub loop-k-preserved : goal.loop-k-preserved
loop-k-preserved c =
    let rest = drop (c.loop-k.k + 1) (in_order c.args.first c.args.processors) in
    let is : c.cyclic-p.result ≡ (c.args.first + c.loop-k.k) % c.args.processors =
    c.cyclic-p.ensures.cyclic ∙ ap (λ (n : ℕ). n % c.args.processors) (omega (arith, c.from.ensures, c.from-in-loop-k.ensures)) in
    c.loop-k.invariant ∙ find-next (goes c.args.self.now) (drop c.loop-k.k (in_order c.args.first c.args.processors)) (proc_no c.cyclic-p.result) rest
    (order-next c.args.first c.args.processors c.loop-k.k c.loop-k-test.true ∙ ap (λ i. proc_no i ∷ rest) (sym is))
    (sym c.goes-in-loop-k.ensures ∙ c.if-goes-2.false)

pub returns : goal.returns
returns c =
    sym (c.loop-k.invariant ∙ find-none (goes c.args.self.now) c.args.first c.args.processors c.loop-k.k
    (omega (arith, c.requires.first, c.loop-k-test.false, c.loop-k.auto.k-end)))
