use Rattle.std.proofs.Common.{◌≡◌, ℕ, List, None, [], replicate, ap, ◌∙◌}
use Rattle.sa_base.specs.declared.number.SpaceNo.{SpaceNo}
use Rattle.sa_base.specs.declared.limits.TheConstants.{MAX_THREADS}
use Rattle.sa_sync.specs.Sync.{Sync, opening}
use Rattle.sa_lists.specs.ReadyView.{ReadyView}
use Rattle.sa_code.specs.declared.code.Op.{Op}
use Rattle.sa_code.specs.declared.state.TheConstants.{MAX_LISTS}
use Rattle.sa_fast.specs.declared.threads.Block.{Block}
use Rattle.sa_fast.specs.declared.threads.KeptPlace.TheVariants.{Ready}
use Rattle.sa_fast.specs.declared.shared.Shared.{Shared}
use Rattle.sa_fast.specs.Threads.{unmade, at_start, with_block}
use Rattle.sa_driven_model.specs.Step.{opened_lists}
use Rattle.sa_driven_model.proofs.opening.open_shared.Goals as goal

-- what is shared, of its parts
abbrev built : SpaceNo → ReadyView → List Op → Sync → List Block → List (List ℕ) → Shared
built space lists code sync threads works = record {
  state = record { space = space; lists = lists; holders = replicate MAX_LISTS None; code = code };
  sync = sync;
  threads = threads;
  works = works;
}

alike : (space : SpaceNo) (l m : ReadyView) (c b : List Op) (s r : Sync) (t u : List Block) (w v : List (List ℕ))
    → l ≡ m → c ≡ b → s ≡ r → t ≡ u → w ≡ v → built space l c s t w ≡ built space m b r u v
alike space l m c b s r t u w v lists code sync threads works =
    ap (λ x. built space x c s t w) lists ∙ ap (λ x. built space m x s t w) code ∙ ap (λ x. built space m b x t w) sync
    ∙ ap (λ x. built space m b r x w) threads ∙ ap (built space m b r u) works

pub returns : goal.returns
returns c =
    let a = c.args in
    alike a.space _ opened_lists _ [] _ (opening a.def.now) _ (with_block (replicate MAX_THREADS unmade) 0 (at_start 0 Ready)) _ (replicate MAX_THREADS [])
    c.in_ok-lists.ensures c.new-3.ensures c.in_ok-sync.ensures c.in_ok-threads.ensures c.in_ok-works.ensures
