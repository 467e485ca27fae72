use Rattle.std.proofs.Common.{◌≡◌, ◌++◌, length, take, sym, ap, ◌∙◌, arith}
use Rattle.std.proofs.lemmas.List.{take-take}
use Rattle.sa_fast.specs.Threads.{unmade}
use Rattle.sa_package_keys.specs.Codes.{number, trimmed, list}
use Rattle.sa_package_keys.proofs.Loops.{padded-all}
use Rattle.sa_package_keys.proofs.Trimmed.{trimmed-front}
use Rattle.sa_package_keys.specs.Packages.{is_new, block_key}
use Rattle.sa_package_keys.proofs.blocks.put_all_blocks.Goals as goal

pub returns : goal.returns
returns c =
    let threads = c.args.threads.now in
    let blocks = c.blocks-blocks.result.now in
    let first : blocks ≡ take (length blocks) threads = c.blocks-blocks.ensures.first in
    let kept = c.kept_blocks-kept.result in
    let within = c.kept_blocks-kept.ensures.within in
    let front = trimmed-front is_new unmade threads (length blocks) kept (λ t from low. ap is_new (c.blocks-blocks.ensures.rest t from)) within
    (ap (trimmed is_new) (sym first) ∙ c.kept_blocks-kept.ensures.kept ∙ ap (take kept) first) in
    padded-all is_new block_key threads kept _ _ _ (omega arith) front
    (c.in_ok-put_blocks.ensures ∙ ap (λ z. z ++ list block_key (take kept blocks)) c.in_ok-put_number.ensures
    ∙ ap (λ bs. (c.args.key.now.items ++ number c.from.result) ++ list block_key bs) (ap (take kept) first ∙ take-take kept (length blocks) threads within))
