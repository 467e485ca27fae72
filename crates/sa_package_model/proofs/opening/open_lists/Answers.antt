use Rattle.std.proofs.Common.{◌≡◌, ℕ, ◌≤◌, true, false, sym, ap, ◌∙◌, arith}
use Rattle.sa_base.specs.declared.limits.TheConstants.{MAX_THREADS}
use Rattle.sa_lists.specs.declared.ranks.Ranks.{Ranks}
use Rattle.sa_lists.specs.ReadyView.{ReadyView, no_threads, next_made, with_made, with_lock, pushed}
use Rattle.sa_package_model.specs.Step.{lists_for}
use Rattle.sa_package_model.proofs.OpenedLists.{made-list, locked-list, locked-threads, locked-held, locked-unlisted, pushed-list, pushed-held}
use Rattle.sa_package_model.proofs.opening.open_lists.Goals.{in-One, in-Many}
use Rattle.sa_package_model.proofs.opening.open_lists.Goals as goal

pub try_lock-requires : goal.try_lock-requires
try_lock-requires c =
    let some : 1 ≤ c.match-ranks.count = elim c.match-ranks.branch [
      | in-One w ↦ omega (arith, w.count-is, c.requires.some)
      | in-Many w ↦ omega (arith, w.count-is)
    ] in
    let made = c.make.ensures.made ∙ ap (λ (r : ReadyView). with_made r 0 (next_made r)) c.in_ok-lists.ensures in
    made-list c.match-ranks.count c.args.ranks some c.make.new.self made

pub push-requires-clause-list : goal.push-requires-clause-list
push-requires-clause-list c =
    let some : 1 ≤ c.match-ranks.count = elim c.match-ranks.branch [
      | in-One w ↦ omega (arith, w.count-is, c.requires.some)
      | in-Many w ↦ omega (arith, w.count-is)
    ] in
    let made = c.make.ensures.made ∙ ap (λ (r : ReadyView). with_made r 0 (next_made r)) c.in_ok-lists.ensures in
    let locked = c.try_lock.ensures.taken ∙ ap (λ (r : ReadyView). with_lock r 0 true) made in
    locked-list c.match-ranks.count c.args.ranks some c.try_lock.new.self locked

pub push-requires-clause-thread : goal.push-requires-clause-thread
push-requires-clause-thread c =
    let some : 1 ≤ c.match-ranks.count = elim c.match-ranks.branch [
      | in-One w ↦ omega (arith, w.count-is, c.requires.some)
      | in-Many w ↦ omega (arith, w.count-is)
    ] in
    let made = c.make.ensures.made ∙ ap (λ (r : ReadyView). with_made r 0 (next_made r)) c.in_ok-lists.ensures in
    let locked = c.try_lock.ensures.taken ∙ ap (λ (r : ReadyView). with_lock r 0 true) made in
    locked-threads c.match-ranks.count c.args.ranks some c.try_lock.new.self locked

pub push-requires-clause-locked : goal.push-requires-clause-locked
push-requires-clause-locked c =
    let some : 1 ≤ c.match-ranks.count = elim c.match-ranks.branch [
      | in-One w ↦ omega (arith, w.count-is, c.requires.some)
      | in-Many w ↦ omega (arith, w.count-is)
    ] in
    let made = c.make.ensures.made ∙ ap (λ (r : ReadyView). with_made r 0 (next_made r)) c.in_ok-lists.ensures in
    let locked = c.try_lock.ensures.taken ∙ ap (λ (r : ReadyView). with_lock r 0 true) made in
    locked-held c.match-ranks.count c.args.ranks some c.try_lock.new.self locked

pub push-requires-clause-unlisted : goal.push-requires-clause-unlisted
push-requires-clause-unlisted c =
    let some : 1 ≤ c.match-ranks.count = elim c.match-ranks.branch [
      | in-One w ↦ omega (arith, w.count-is, c.requires.some)
      | in-Many w ↦ omega (arith, w.count-is)
    ] in
    let made = c.make.ensures.made ∙ ap (λ (r : ReadyView). with_made r 0 (next_made r)) c.in_ok-lists.ensures in
    let locked = c.try_lock.ensures.taken ∙ ap (λ (r : ReadyView). with_lock r 0 true) made in
    locked-unlisted c.match-ranks.count c.args.ranks some c.try_lock.new.self locked

pub unlock-requires-clause-list : goal.unlock-requires-clause-list
unlock-requires-clause-list c =
    let some : 1 ≤ c.match-ranks.count = elim c.match-ranks.branch [
      | in-One w ↦ omega (arith, w.count-is, c.requires.some)
      | in-Many w ↦ omega (arith, w.count-is)
    ] in
    let made = c.make.ensures.made ∙ ap (λ (r : ReadyView). with_made r 0 (next_made r)) c.in_ok-lists.ensures in
    let locked = c.try_lock.ensures.taken ∙ ap (λ (r : ReadyView). with_lock r 0 true) made in
    let push = c.push.ensures ∙ ap (λ (r : ReadyView). pushed r 0 0) locked in
    pushed-list c.match-ranks.count c.args.ranks some c.push.new.self push

pub unlock-requires-clause-held : goal.unlock-requires-clause-held
unlock-requires-clause-held c =
    let some : 1 ≤ c.match-ranks.count = elim c.match-ranks.branch [
      | in-One w ↦ omega (arith, w.count-is, c.requires.some)
      | in-Many w ↦ omega (arith, w.count-is)
    ] in
    let made = c.make.ensures.made ∙ ap (λ (r : ReadyView). with_made r 0 (next_made r)) c.in_ok-lists.ensures in
    let locked = c.try_lock.ensures.taken ∙ ap (λ (r : ReadyView). with_lock r 0 true) made in
    let push = c.push.ensures ∙ ap (λ (r : ReadyView). pushed r 0 0) locked in
    pushed-held c.match-ranks.count c.args.ranks some c.push.new.self push

pub returns : goal.returns
returns c =
    let ranks = c.args.ranks in
    let count : c.match-ranks.count ≡ lists_for ranks c.args.processors = elim c.match-ranks.branch [
      | in-One w ↦ w.count-is ∙ ap (λ (r : Ranks). lists_for r c.args.processors) (sym w.in-One.is)
      | in-Many w ↦ w.count-is ∙ ap (λ (r : Ranks). lists_for r c.args.processors) (sym w.in-Many.is)
    ] in
    let unmade = c.in_ok-lists.ensures ∙ ap (λ (n : ℕ). no_threads n ranks MAX_THREADS) count in
    let made = c.make.ensures.made ∙ ap (λ (r : ReadyView). with_made r 0 (next_made r)) unmade in
    let locked = c.try_lock.ensures.taken ∙ ap (λ (r : ReadyView). with_lock r 0 true) made in
    c.unlock.ensures ∙ ap (λ (r : ReadyView). with_lock r 0 false) (c.push.ensures ∙ ap (λ (r : ReadyView). pushed r 0 0) locked)
