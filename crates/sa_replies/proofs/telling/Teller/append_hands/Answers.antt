use Rattle.std.proofs.Common.{◌++◌, [], ◌∷◌, take, get_or, sym, ap, ◌∙◌, append-nil}
use Rattle.std.specs.List.{flat_map}
use Rattle.std.proofs.lemmas.Grind.{flat_map-append}
use Rattle.std.proofs.lemmas.List.{take_more}
use Rattle.sa_lemmas.proofs.Texts.{appended_twice}
use Rattle.sa_replies.specs.Telling.{handed_text}
use Rattle.sa_replies.proofs.telling.Teller.append_hands.Goals as goal

pub loop-t-preserved : goal.loop-t-preserved
loop-t-preserved c =
    let f = handed_text c.args.self.now c.args.s in
    let before = take c.loop-t.t-index c.args.threads.now in
    let t = get_or c.args.threads.now c.loop-t.t-index _ in
    appended_twice c.args.out.now.items (flat_map f before) (f t) c.loop-t.out.items c.append_hand.new.out.items c.loop-t.invariant
    c.in_ok-append_hand.ensures
    ∙ ap (λ bs. c.args.out.now.items ++ bs)
    (sym (ap (flat_map f) (take_more c.args.threads.now c.loop-t.t-index _ c.loop-t-test.true) ∙ flat_map-append f before (t ∷ [])
    ∙ ap (λ bs. flat_map f before ++ bs) (append-nil (f t))))
