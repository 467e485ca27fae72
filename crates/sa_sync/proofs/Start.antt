-- What a new state shows is the opening.
use Rattle.std.proofs.Common.{◌≡◌, ℕ, ◌+◌, Bool, false, List, [], length, map, drop, take, replicate, Option, None, refl, ap, ◌∙◌, arith}
use Rattle.std.specs.Simd.Lanes.{zip2}
use Rattle.sa_base.specs.declared.number.ThreadNo.{ThreadNo}
use Rattle.sa_spaces.specs.Space.{SpaceView}
use Rattle.sa_links.specs.Lists.{Lists}
use Rattle.sa_base.specs.declared.limits.TheConstants.{MAX_THREADS}
use Rattle.sa_sync.specs.Sync.{opening, free_mutex, semaphore_of as unwaited}
use Rattle.sa_sync.specs.Parts.{mutex_of, semaphore_of, shown, HasQueues}
use Rattle.sa_sync.proofs.Lists.{zip2-replicate, map-replicate, drop-replicate, take-replicate}
use Rattle.std.proofs.lemmas.List.{length-replicate}

pub shown-opening : (space : SpaceView) (queues : ℕ) → queues ≡ MAX_THREADS + space.mutexes + length space.sems
    → shown (replicate space.mutexes None) space.sems (replicate queues []) (replicate MAX_THREADS false) (replicate space.cells 0) ≡ opening space
shown-opening space queues e =
    let holders : List (Option ThreadNo) = replicate space.mutexes None in
    let many : length holders ≡ space.mutexes = length-replicate space.mutexes None in
    let left : drop {A = List ℕ} MAX_THREADS (replicate queues []) ≡ replicate (space.mutexes + length space.sems) [] =
    drop-replicate MAX_THREADS queues (space.mutexes + length space.sems) [] (omega arith) in
    let right : drop {A = List ℕ} (MAX_THREADS + length holders) (replicate queues []) ≡ replicate (length space.sems) [] =
    drop-replicate (MAX_THREADS + length holders) queues (length space.sems) [] (omega arith) in
    let mutexes : zip2 mutex_of holders (drop MAX_THREADS (replicate queues [])) ≡ replicate space.mutexes free_mutex =
    ap (zip2 mutex_of holders) left ∙ zip2-replicate mutex_of holders (space.mutexes + length space.sems) [] (omega arith)
    ∙ map-replicate (λ h. mutex_of h []) space.mutexes None in
    let semaphores : zip2 semaphore_of space.sems (drop (MAX_THREADS + length holders) (replicate queues [])) ≡ map unwaited space.sems =
    ap (zip2 semaphore_of space.sems) right ∙ zip2-replicate semaphore_of space.sems (length space.sems) [] (omega arith) in
    let joiners : take {A = List ℕ} MAX_THREADS (replicate queues []) ≡ replicate MAX_THREADS [] =
    take-replicate MAX_THREADS queues (space.mutexes + length space.sems) [] (omega arith) in
    rw (mutexes, semaphores, joiners) refl

pub shown-new : (space : SpaceView) (holders : List (Option ThreadNo)) (counts : List ℕ) (queues : Lists) (many : ℕ) (done : List Bool) (cells : List ℕ)
    → holders ≡ replicate space.mutexes None → counts ≡ space.sems → queues ≡ record { nodes = MAX_THREADS; lists = replicate many [] }
    → many ≡ MAX_THREADS + space.mutexes + length space.sems → done ≡ replicate MAX_THREADS false → cells ≡ replicate space.cells 0
    → shown holders counts queues.lists done cells ≡ opening space
shown-new space holders counts queues many done cells nobody starts empty all undone zeros =
    ap (λ x. shown x counts queues.lists done cells) nobody
    ∙ ap (λ x. shown (replicate space.mutexes None) x queues.lists done cells) starts
    ∙ ap (λ (x : Lists). shown (replicate space.mutexes None) space.sems x.lists done cells) empty
    ∙ ap (λ x. shown (replicate space.mutexes None) space.sems (replicate many []) x cells) undone
    ∙ ap (λ x. shown (replicate space.mutexes None) space.sems (replicate many []) (replicate MAX_THREADS false) x) zeros
    ∙ shown-opening space many all

-- a new state has a queue for each thread, mutex and semaphore
pub queues-new : (holders : List (Option ThreadNo)) (counts : List ℕ) (queues : Lists) (many : ℕ) → queues ≡ record { nodes = MAX_THREADS; lists = replicate many [] }
    → many ≡ MAX_THREADS + length holders + length counts → HasQueues holders counts queues.lists
queues-new holders counts queues many empty all = ap (λ (x : Lists). length x.lists) empty ∙ length-replicate many [] ∙ all
