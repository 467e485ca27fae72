-- A session goes on by one event more, or is over.
use Rattle.std.proofs.Common.{◌≡◌, ℕ, suc, ◌+◌, ◌≤◌, List, [], ◌∷◌, ◌++◌, length, take, Option, Some, None, refl, sym, ap, ◌∙◌, subst, append_assoc, append-nil, add-one, arith}
use Rattle.std.proofs.lemmas.List.{drop_all}
use Rattle.std.proofs.lemmas.List.{length-append}
use Rattle.std.proofs.KnownBytes.{Appends-nil, Appends-trans}
use Rattle.std.specs.Io.KnownBytes.{Appends}
use Rattle.sa_base.specs.declared.number.ProcNo.{ProcNo}
use Rattle.sa_base.specs.declared.record.Item.{Item}
use Rattle.sa_spaces.specs.Workload.{WorkloadView, IsWorkload}
use Rattle.sa_io.specs.Faults.{AppendsPrefix}
use Rattle.sa_io.specs.Pieces.{GoesOut}
use Rattle.sa_io.proofs.PieceLemmas.{out-both, out-all, out-end_cut, prefix-behind}
use Rattle.sa_sched.specs.Order.{Order}
use Rattle.sa_lines_in.proofs.Filling.{still-told}
use Rattle.sa_base.specs.declared.record.End.{End}
use Rattle.sa_laws.specs.State.{opening_state}
use Rattle.sa_debug.specs.Reached.{CanPlay}
use Rattle.sa_sched.specs.Turns.{Turns, start, turned, turned_often, next_processor}
use Rattle.sa_sched.specs.Laws.{TurnsAreInOrder}
use Rattle.sa_assign.specs.Reaim.{proc_no}
use Rattle.sa_core.specs.View.{CoreView, machine}
use Rattle.sa_core_model.specs.End.{end_of}
use Rattle.sa_core_model.specs.Run.{opening}
use Rattle.sa_driven_model.specs.declared.context.DrivenContext.{DrivenContext}
use Rattle.sa_driven_model.specs.declared.space.DrivenSpace.{DrivenSpace}
use Rattle.sa_driven_model.specs.Step.{driven_calls}
use Rattle.sa_replies.specs.Telling.{opened, told_through, items_text}
use Rattle.sa_driven_runs.specs.Sessions.{DrivenMachine}
use Rattle.sa_session.specs.Machines.{proc_after}
use Rattle.sa_session.specs.Exchange.{ExchangeView, Hears, WrittenFor}
use Rattle.sa_session.specs.Text.{ask_text, text_from}
use Rattle.sa_session.specs.Moments.{Moment, first_moment, lines_of, IsEvent, GoesOn, Reaches}
use Rattle.sa_session.specs.Answer.{answer_in}
use Rattle.sa_asked.specs.Questions.{question}
use Rattle.sa_session.specs.Views.{SessionView, Follows, HasToldAll}
use Rattle.sa_session.specs.Events.{Makes, Refuses, IsLost}
use Rattle.sa_session.specs.declared.conversation.Close.TheVariants.{Ended, Refused}
use Rattle.sa_session.specs.declared.exchange.NoTalk.{NoTalk}
use Rattle.sa_session.specs.declared.exchange.NoTalk.TheVariants.{Read, Write, OutOfMemory}
use Rattle.sa_session.specs.declared.wrong.Wrong.{Wrong}
use Rattle.sa_session.specs.Over.{said_at, IsClosed, CameSoFar}
use Rattle.sa_session.proofs.Lines.{hears-on, hears-none}
use Rattle.sa_session.proofs.Sessions.{reached-plays, adds-event}

-- the lines of no item
text-end : (n : ℕ) (w : WorkloadView) (items : List Item) → n ≡ length items → text_from n w items ≡ []
text-end n w items all = ap (λ (is : List Item). items_text (told_through (opened w) (take n items)) is) (drop_all n items (omega (arith, all)))

-- the first items of more
take-same : (items more : List Item) → take (length items) (items ++ more) ≡ items
take-same [] more = refl
take-same (i ∷ items) more = ap (λ (is : List Item). i ∷ is) (take-same items more)

-- what follows the trace of a machine that has told all follows a longer one
pub follows-on : (s t : SessionView) (more : List Item) → HasToldAll s → t.teller ≡ s.teller → t.told ≡ s.told
    → (machine t.core).workload ≡ (machine s.core).workload → (machine t.core).items ≡ (machine s.core).items ++ more → Follows t
follows-on s t more all teller told workload items =
    let size = length-append (machine s.core).items more in
    let count : t.told ≡ length (machine s.core).items = told ∙ all.all in
    record {
      few = omega (arith, count, ap length items, size);
      knows = teller ∙ all.knows
          ∙ ap (λ (w : WorkloadView). told_through (opened w) (machine s.core).items) (sym workload)
          ∙ ap (λ (is : List Item). told_through (opened (machine t.core).workload) is)
          (sym (ap (λ n. take n (machine t.core).items) count ∙ ap (λ (is : List Item). take (length (machine s.core).items) is) items
          ∙ take-same (machine s.core).items more));
    }

-- What was written of a text, after a part of it that was written before.
written-behind : (why : NoTalk) (before at after : Option (List ℕ)) (text written piece : List ℕ) → text ≡ written ++ piece
    → Appends before at written → WrittenFor why at after piece → WrittenFor why before after text
written-behind Read before at after text written piece whole taken more =
    subst (λ v. Appends before after v) (sym whole) (Appends-trans before at after written piece taken more)
written-behind Write before at after text written piece whole taken cut =
    prefix-behind before at after text written piece [] (whole ∙ ap (λ v. written ++ v) (sym (append-nil piece))) taken cut
written-behind OutOfMemory before at after text written piece whole taken cut =
    prefix-behind before at after text written piece [] (whole ∙ ap (λ v. written ++ v) (sym (append-nil piece))) taken cut

-- WHERE A SESSION IS: at a moment, whose text is what was said, with the lines of the items that are still to be told
pub record IsAt (w : WorkloadView) (order : Order) (budget : ℕ) (kept : List ℕ) (before at old now : Option (List ℕ)) (m : DrivenMachine) (told : ℕ)
    (x : ExchangeView) (replies : ℕ) : Type 0 where
  pub moment : Moment
  pub is : moment.machine ≡ m
  pub reached : Reaches w order budget m.event moment
  pub hears : Hears kept x.kept before at moment.replies
  pub counted : replies ≡ length moment.replies
  pub text : List ℕ
  pub out : GoesOut old now [] text x.said
  pub pending : text ++ text_from told m.workload m.items ≡ moment.text
  pub workload : m.workload ≡ w

module _ (w : WorkloadView) (order : Order) (budget : ℕ) (kept : List ℕ) (before old : Option (List ℕ)) where
  -- at the opening
  pub at-opening : (m : DrivenMachine) (x : ExchangeView) → m ≡ opening driven_calls w → x.kept ≡ kept → x.said ≡ []
      → IsAt w order budget kept before before old old m 0 x 0
  at-opening m x is same none = record {
    moment = first_moment w;
    is = sym is;
    reached = subst (λ n. Reaches w order budget n (first_moment w)) (sym (ap (λ (z : DrivenMachine). z.event) is)) refl;
    hears = subst (λ bs. Hears kept bs before before []) (sym same) (hears-none kept before);
    counted = refl;
    text = [];
    out = record { sent = []; taken = Appends-nil old; whole = sym none };
    pending = ap (λ (z : DrivenMachine). text_from 0 z.workload z.items) is;
    workload = ap (λ (z : DrivenMachine). z.workload) is;
  }

  -- MEMORY RAN OUT at the opening.
  pub lost-start : CameSoFar w order budget kept before before old old OutOfMemory
  lost-start =
      record { moment = first_moment w; reached = refl; later = kept; hears = hears-none kept before; taken = (0, Appends-nil old) }

  -- ITS ITEMS can be played.
  pub at-plays : (m : DrivenMachine) (x : ExchangeView) (at now : Option (List ℕ)) (told replies : ℕ) → IsWorkload w
      → IsAt w order budget kept before at old now m told x replies → CanPlay m.workload (opening_state m.workload) m.items
  at-plays m x at now told replies ok a =
      subst (λ (v : WorkloadView). CanPlay v (opening_state v) m.items) (sym a.workload)
      (subst (λ (z : DrivenMachine). CanPlay w (opening_state w) z.items) a.is (reached-plays w order budget m.event a.moment ok a.reached))

  module _ (m : DrivenMachine) (x : ExchangeView) (at now : Option (List ℕ)) (told replies : ℕ) (a : IsAt w order budget kept before at old now m told x replies)
    where
      -- the items are told
      pub at-told : (all : ℕ) (y : ExchangeView) → all ≡ length m.items → y.said ≡ x.said ++ text_from told m.workload m.items → y.kept ≡ x.kept
          → IsAt w order budget kept before at old now m all y replies
      at-told all y is_all said same = record {
        moment = a.moment;
        is = a.is;
        reached = a.reached;
        hears = subst (λ bs. Hears kept bs before at a.moment.replies) (sym same) a.hears;
        counted = a.counted;
        text = a.moment.text;
        out = record {
          sent = a.out.sent;
          taken = a.out.taken;
          whole = sym a.pending
              ∙ ap (λ bs. bs ++ text_from told m.workload m.items) a.out.whole
              ∙ append_assoc a.out.sent x.said (text_from told m.workload m.items)
              ∙ ap (λ bs. a.out.sent ++ bs) (sym said);
        };
        pending = ap (λ bs. a.moment.text ++ bs) (text-end all m.workload m.items is_all) ∙ append-nil a.moment.text;
        workload = a.workload;
      }

      -- what was said, and what is still to be said, with the question
      whole-said : said_at w order a.moment ≡ a.out.sent ++ (x.said ++ (text_from told m.workload m.items ++ ask_text a.moment.machine (proc_after w order a.moment.machine.event)))
      whole-said =
          ap (λ bs. bs ++ ask_text a.moment.machine (proc_after w order a.moment.machine.event))
          (sym a.pending ∙ ap (λ bs. bs ++ text_from told m.workload m.items) a.out.whole ∙ append_assoc a.out.sent x.said (text_from told m.workload m.items))
          ∙ append_assoc a.out.sent (x.said ++ text_from told m.workload m.items) (ask_text a.moment.machine (proc_after w order a.moment.machine.event))
          ∙ ap (λ bs. a.out.sent ++ bs)
          (append_assoc x.said (text_from told m.workload m.items) (ask_text a.moment.machine (proc_after w order a.moment.machine.event)))

      came : (why : NoTalk) (later : List ℕ) (after new : Option (List ℕ)) → Hears x.kept later at after []
          → WrittenFor why old new (said_at w order a.moment) → CameSoFar w order budget kept before after old new why
      came why later after new hears taken = record {
        moment = a.moment;
        reached = subst (λ (z : DrivenMachine). Reaches w order budget z.event a.moment) (sym a.is) a.reached;
        later = later;
        hears = subst (λ lines. Hears kept later before after lines) (append-nil a.moment.replies)
            (hears-on kept x.kept later before at after a.moment.replies [] a.hears hears);
        taken = taken;
      }

      -- MEMORY RAN OUT as the items were told.
      pub lost-here : CameSoFar w order budget kept before at old now OutOfMemory
      lost-here =
          came OutOfMemory x.kept at now (hears-none x.kept at)
          (prefix-behind old now now (said_at w order a.moment) a.out.sent []
          (x.said ++ (text_from told m.workload m.items ++ ask_text a.moment.machine (proc_after w order a.moment.machine.event))) whole-said a.out.taken
          (0, Appends-nil now))

      -- THE LAST WRITE failed.
      pub lost-writing : (new : Option (List ℕ)) → AppendsPrefix now new x.said → CameSoFar w order budget kept before at old new Write
      lost-writing new cut =
          came Write x.kept at new (hears-none x.kept at)
          (prefix-behind old now new (said_at w order a.moment) a.out.sent x.said
          (text_from told m.workload m.items ++ ask_text a.moment.machine (proc_after w order a.moment.machine.event)) whole-said a.out.taken cut)

      module _ (all : told ≡ length m.items) where
        is-text : a.text ≡ a.moment.text
        is-text = sym (append-nil a.text) ∙ ap (λ bs. a.text ++ bs) (sym (text-end told m.workload m.items all)) ∙ a.pending

        -- THE RUN ENDED, and all was written.
        pub at-end : (end : End) (new : Option (List ℕ)) → end_of driven_calls budget m ≡ Some end → Appends now new x.said
            → IsClosed w order budget kept before at old new m (Ended end)
        at-end end new ends wrote = record {
          moment = a.moment;
          is = a.is;
          reached = a.reached;
          closes = record {
            ends = ap (end_of driven_calls budget) a.is ∙ ends;
            later = x.kept;
            hears = a.hears;
            taken = subst (λ bs. Appends old new bs) is-text (out-all old now new a.text x.said a.out wrote);
          };
        }

        module _ (p : ProcNo) (turn : p ≡ proc_after w order m.event) where
          is-turn : proc_after w order a.moment.machine.event ≡ p
          is-turn = ap (λ (z : DrivenMachine). proc_after w order z.event) a.is ∙ sym turn

          -- the text with the question
          is-said : said_at w order a.moment ≡ a.moment.text ++ ask_text m p
          is-said =
              ap (λ q. a.moment.text ++ ask_text a.moment.machine q) is-turn ∙ ap (λ (z : DrivenMachine). a.moment.text ++ ask_text z p) a.is

          out-asked : (y : ExchangeView) (new : Option (List ℕ)) → GoesOut now new x.said (ask_text m p) y.said
              → GoesOut old new [] (a.moment.text ++ ask_text m p) y.said
          out-asked y new out =
              subst (λ bs. GoesOut old new [] (bs ++ ask_text m p) y.said) is-text
              (out-both old now new [] a.text x.said (ask_text m p) y.said a.out out)

          -- AN EVENT was made.
          pub at-event : (none : end_of driven_calls budget m ≡ None) (line : Option (List ℕ)) (y : ExchangeView) (after new : Option (List ℕ)) (made : DrivenMachine)
              (count : ℕ) → Makes m p x at after now new line y made → count ≡ replies + length (lines_of line)
              → IsAt w order budget kept before after old new made told y count
          at-event none line y after new made count go counted =
              let more : Moment = record {
                machine = made;
                text = (a.moment.text ++ ask_text m p) ++ text_from told made.workload made.items;
                replies = a.moment.replies ++ lines_of line;
              } in
              let on : GoesOn p a.moment more = record {
                line = line;
                event = subst (λ (z : DrivenMachine). IsEvent z p line made) (sym a.is) go.event;
                text = ap (λ (z : DrivenMachine). (a.moment.text ++ ask_text z p) ++ text_from told made.workload made.items) (sym a.is)
                    ∙ ap (λ n. (a.moment.text ++ ask_text a.moment.machine p) ++ text_from n made.workload made.items)
                    (all ∙ ap (λ (z : DrivenMachine). length z.items) (sym a.is));
                replies = refl;
              } in
              let number : made.event ≡ suc m.event = go.number ∙ add-one m.event in
              record {
                moment = more;
                is = refl;
                reached = subst (λ n. Reaches w order budget n more) (sym number)
                    (a.moment, a.reached, ap (end_of driven_calls budget) a.is ∙ none, subst (λ (q : ProcNo). GoesOn q a.moment more) turn on);
                hears = hears-on kept x.kept y.kept before at after a.moment.replies (lines_of line) a.hears go.hears;
                counted = (let size = length-append a.moment.replies (lines_of line) in omega (arith, counted, a.counted, size));
                text = a.moment.text ++ ask_text m p;
                out = out-asked y new go.out;
                pending = refl;
                workload = go.workload ∙ a.workload;
              }

          -- A REPLY IS REFUSED, and all was written.
          pub at-refusal : (none : end_of driven_calls budget m ≡ None) (wrong : Wrong) (line : ℕ) (y : ExchangeView) (after between new : Option (List ℕ))
              (made : DrivenMachine) → Refuses m p x at after now between wrong y made → line ≡ replies + 1 → Appends between new y.said
              → IsClosed w order budget kept before after old new made (Refused line wrong)
          at-refusal none wrong line y after between new made refusal counted wrote = record {
            moment = a.moment;
            is = a.is ∙ sym refusal.same;
            reached = subst (λ (z : DrivenMachine). Reaches w order budget z.event a.moment) (sym refusal.same) a.reached;
            closes = record {
              goes_on = ap (end_of driven_calls budget) a.is ∙ none;
              asked = refusal.asked;
              is_asked = ap (question driven_calls a.moment.machine) is-turn ∙ ap (λ (z : DrivenMachine). question driven_calls z p) a.is ∙ refusal.is_asked;
              later = refusal.later;
              hears = subst (λ lines. Hears kept refusal.later before after lines) (append-nil a.moment.replies)
                  (hears-on kept x.kept refusal.later before at after a.moment.replies [] a.hears refusal.hears);
              is_wrong = ap (λ (q : ProcNo). answer_in a.moment.machine q refusal.asked.space refusal.later) is-turn
                  ∙ ap (λ (z : DrivenMachine). answer_in z p refusal.asked.space refusal.later) a.is ∙ refusal.is_wrong;
              end = λ told missing. refusal.end (still-told before at a.hears.got a.hears.taken told) missing;
              counted = counted ∙ ap (λ n. n + 1) a.counted;
              taken = subst (λ bs. Appends old new bs) (sym is-said) (out-all old between new (a.moment.text ++ ask_text m p) y.said (out-asked y between refusal.out) wrote);
            };
          }

          -- THAT WRITE failed.
          pub lost-refusing : (wrong : Wrong) (y : ExchangeView) (after between new : Option (List ℕ)) (made : DrivenMachine)
              → Refuses m p x at after now between wrong y made
              → AppendsPrefix between new y.said → CameSoFar w order budget kept before after old new Write
          lost-refusing wrong y after between new made refusal cut =
              came Write refusal.later after new refusal.hears (subst (λ bs. AppendsPrefix old new bs) (sym is-said)
              (out-end_cut old between new (a.moment.text ++ ask_text m p) y.said (out-asked y between refusal.out) cut))

          -- THE EVENT could not be made.
          pub lost-event : (why : NoTalk) (after new : Option (List ℕ)) → IsLost m p x at after now new why
              → CameSoFar w order budget kept before after old new why
          lost-event why after new lost =
              came why lost.later after new lost.hears (subst (λ bs. WrittenFor why old new bs) (sym is-said)
              (written-behind why old now new (a.moment.text ++ ask_text m p) a.out.sent (x.said ++ ask_text m p)
              (ap (λ bs. bs ++ ask_text m p) (sym is-text ∙ a.out.whole) ∙ append_assoc a.out.sent x.said (ask_text m p)) a.out.taken lost.taken))

  -- THE ITEMS were told.
  pub at-all : (at now : Option (List ℕ)) (replies : ℕ) (s t : SessionView) (x view : ExchangeView) (said : List ℕ) → view ≡ x → t.core ≡ s.core
      → HasToldAll t → said ≡ view.said ++ text_from s.told (machine s.core).workload (machine s.core).items
      → IsAt w order budget kept before at old now (machine s.core) s.told x replies
      → IsAt w order budget kept before at old now (machine t.core) t.told (record { said = said; kept = view.kept }) replies
  at-all at now replies s t x view said seen same all is_said a =
      subst (λ (c : CoreView DrivenSpace DrivenContext). IsAt w order budget kept before at old now (machine c) t.told
      (record { said = said; kept = view.kept }) replies) (sym same)
      (at-told (machine s.core) x at now s.told replies a t.told (record { said = said; kept = view.kept })
      (all.all ∙ ap (λ (c : CoreView DrivenSpace DrivenContext). length (machine c).items) same)
      (is_said ∙ ap (λ (v : ExchangeView). v.said ++ text_from s.told (machine s.core).workload (machine s.core).items) seen)
      (ap (λ (v : ExchangeView). v.kept) seen))

-- A TURN is that of the order.
pub turn-is : (w : WorkloadView) (order : Order) (n : ℕ) (s : Turns) (p : ProcNo) → TurnsAreInOrder → 1 ≤ w.processors
    → s ≡ turned_often (start order w.processors) n → p.0 ≡ next_processor s → p ≡ proc_after w order n
turn-is w order n s p in_order some at gives = ap proc_no (gives ∙ ap next_processor at ∙ in_order order w.processors n some)

-- the schedule after it
pub schedule-on : (order : Order) (processors n : ℕ) (s t : Turns) → s ≡ turned_often (start order processors) n → t ≡ turned s
    → t ≡ turned_often (start order processors) (n + 1)
schedule-on order processors n s t at is = is ∙ ap turned at ∙ ap (turned_often (start order processors)) (sym (add-one n))

-- What follows the trace before an event follows the one after it.
pub follows-event : (w : WorkloadView) (order : Order) (budget : ℕ) (kept : List ℕ) (before old at now after new : Option (List ℕ)) (replies : ℕ)
    (s t : SessionView) (x y : ExchangeView) (p : ProcNo) (line : Option (List ℕ)) → IsWorkload w
    → IsAt w order budget kept before at old now (machine s.core) s.told x replies → end_of driven_calls budget (machine s.core) ≡ None
    → Makes (machine s.core) p x at after now new line y (machine t.core) → HasToldAll s → t.teller ≡ s.teller → t.told ≡ s.told → Follows t
follows-event w order budget kept before old at now after new replies s t x y p line ok a none go all teller told =
    let more =
    adds-event w order budget (machine s.core).event a.moment p line (machine t.core) ok a.reached (ap (end_of driven_calls budget) a.is ∙ none)
    (subst (λ (z : DrivenMachine). IsEvent z p line (machine t.core)) (sym a.is) go.event) in
    follows-on s t more.0 all teller told go.workload (more.1 ∙ ap (λ (z : DrivenMachine). z.items ++ more.0) a.is)
