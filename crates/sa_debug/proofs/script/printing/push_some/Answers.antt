use Rattle.std.proofs.Common.{◌++◌, [], ◌∷◌, take, get_or, sym, ap, ◌∙◌, append-nil}
use Rattle.std.specs.List.{flat_map}
use Rattle.std.proofs.lemmas.Grind.{flat_map-append}
use Rattle.std.proofs.lemmas.List.{take_more}
use Rattle.sa_lemmas.proofs.Texts.{appended_twice}
use Rattle.sa_debug.specs.script.Reply.{number_text, register_text}
use Rattle.sa_debug.proofs.script.printing.push_some.Goals as goal

pub loop-reg-preserved : goal.loop-reg-preserved
loop-reg-preserved c =
    let f = register_text c.args.regs.now in
    let before = take c.loop-reg.reg-index c.args.some.now in
    let reg = get_or c.args.some.now c.loop-reg.reg-index _ in
    appended_twice c.args.out.now.items (flat_map f before) (f reg) c.loop-reg.out.items c.push_number.new.out.items c.loop-reg.invariant
    (c.in_ok-push_number.ensures ∙ ap (λ n. c.loop-reg.out.items ++ number_text n) c.get.ensures)
    ∙ ap (λ bs. c.args.out.now.items ++ bs)
    (sym (ap (flat_map f) (take_more c.args.some.now c.loop-reg.reg-index _ c.loop-reg-test.true) ∙ flat_map-append f before (reg ∷ [])
    ∙ ap (λ bs. flat_map f before ++ bs) (append-nil (f reg))))
