use Rattle.std.proofs.Common.{◌≡◌, ◌+◌, ◌-◌, ◌*◌, ◌^◌, ◌%◌, get_or, drop, sym, ap, ◌∙◌, arith, bit_and}
use Rattle.std.proofs.lemmas.Nat.{one_shl}
use Rattle.std.proofs.lemmas.List.{at_drop_more, at_drop_all}
use Rattle.sa_devices.specs.Pages.{without_pages}
use Rattle.sa_devices.proofs.pages.all_but.Goals as goal

pub overflow_shl-pages : goal.overflow_shl-pages
overflow_shl-pages c = let low = c.requires c.loop-page.page-index 0 c.loop-page-test.true in omega arith

pub loop-page-preserved : goal.loop-page-preserved
loop-page-preserved c =
    let i = c.loop-page.page-index in
    let pages = c.loop-page.pages in
    let k = get_or c.args.absent.now i 0 in
    let low = c.requires i 0 c.loop-page-test.true in
    let bit : 1 * 2 ^ k % 65536 ≡ 2 ^ k = one_shl k 16 (omega arith) in
    ap (λ n. without_pages (bit_and pages (65535 - n)) (drop (i + 1) c.args.absent.now)) bit
    ∙ sym (at_drop_more (without_pages pages) c.args.absent.now i 0 c.loop-page-test.true)
    ∙ c.loop-page.invariant

pub returns : goal.returns
returns c =
    sym (at_drop_all (without_pages c.loop-page.pages) c.args.absent.now c.loop-page.page-index c.loop-page-test.false) ∙ c.loop-page.invariant
