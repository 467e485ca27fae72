-- What the parts of `kernel` say together.
use Rattle.std.proofs.Common.{◌≡◌, ℕ, ◌≤◌, List, [], ◌++◌, Option, None, Some, refl, sym, ap, ◌∙◌, subst, arith, inl, inr, append_assoc, append-nil}
use Rattle.std.proofs.lemmas.Bool.{false≢true}
use Rattle.std.specs.Prelude.{IsSome}
use Rattle.std.proofs.KnownBytes.{Appends-trans, Consumes-trans}
use Rattle.std.specs.Io.KnownBytes.{Appends, Consumes}
use Rattle.sa_base.specs.declared.record.Item.{Item}
use Rattle.sa_base.specs.declared.record.End.TheVariants as end
use Rattle.sa_base.specs.declared.refusal.Bad.{Bad}
use Rattle.sa_io.specs.Faults.{HasRisen, AppendsPrefix}
use Rattle.sa_io.specs.Input.{LosesAtMost}
use Rattle.sa_io.proofs.PieceLemmas.{prefix-behind}
use Rattle.sa_spaces.specs.Workload.{WorkloadView, IsWorkload}
use Rattle.sa_workload.specs.Text.{IsText}
use Rattle.sa_workload.specs.Bad.{BadAt}
use Rattle.sa_workload.specs.Texts.{workload_part}
use Rattle.sa_input.specs.Refusals.{IsInputRefused}
use Rattle.sa_trace.specs.TraceText.{last_line_of}
use Rattle.sa_sched.specs.Order.{Order}
use Rattle.sa_session.specs.declared.exchange.NoTalk.{NoTalk}
use Rattle.sa_session.specs.declared.exchange.NoTalk.TheVariants as stopped
use Rattle.sa_session.specs.declared.conversation.Close.{Close}
use Rattle.sa_session.specs.declared.conversation.Close.TheVariants.{Ended, Refused}
use Rattle.sa_session.specs.declared.conversation.Over.{Over}
use Rattle.sa_session.specs.Exchange.{Hears, FailsFor, WrittenFor}
use Rattle.sa_session.specs.Laws.{SessionsAreLegal, SessionsEndAsDefined, WholeSessionsAreRight}
use Rattle.sa_session.specs.Moments.{Moment, Reaches}
use Rattle.sa_session.specs.Over.{said_at, Closes, IsOver, CameSoFar}
use Rattle.sa_command.specs.declared.command.ScheduleWord.{ScheduleWord}
use Rattle.sa_cli.specs.declared.outcome.Ran.{Ran}
use Rattle.sa_cli.specs.declared.outcome.Ran.TheVariants.{Nothing, Plain}
use Rattle.sa_cli.specs.declared.outcome.Status.{Status}
use Rattle.sa_cli.specs.declared.outcome.Status.TheVariants.{AllDone, BadWorkload, Stuck, Budget, ReadFault, WriteFault, OutOfMemory, BadReply}
use Rattle.sa_cli.specs.Outcome.{history}
use Rattle.sa_cli.specs.Schedules.{order_by}
use Rattle.sa_cli.specs.Answers.{World, TookAll, TookSome, Writes}
use Rattle.sa_cli.specs.Complete.{Talks, RefusesFront}
use Rattle.sa_cli.specs.Kernel.{bad_reply, status_of_close, end_of_close, status_of_no_talk, LosesSome, HasFront, GaveLines, Talked, EndsSo, RefusesSo, StopsSo, IsCut, AnswersKernel}
use Rattle.sa_cli.proofs.Inputs.{all-parted, refused-once, text-not_refused, told-is}

-- WHAT IS LOST of the source
loses-more : (most : ℕ) (before at after : Option (List ℕ)) (kept later : List ℕ) (lines : List (List ℕ)) → LosesAtMost most before at
    → Hears kept later at after lines → LosesSome before after
loses-more most before at after kept later lines lost hears = (lost.0 ++ hears.got, Consumes-trans before at after lost.0 hears.got lost.1 hears.taken)

module _ (most : ℕ) (first at last : Option (List ℕ)) (lost : LosesAtMost most first at) (w : WorkloadView) (order : Order) (budget : ℕ) (kept : List ℕ)
    (old new : Option (List ℕ)) where
  closes-loses : (x : Moment) (close : Close) → Closes w order budget kept at last old new x close → LosesSome first last
  closes-loses x (Ended e) closes = loses-more most first at last kept closes.later x.replies lost closes.hears
  closes-loses x (Refused line wrong) closes = loses-more most first at last kept closes.later x.replies lost closes.hears

  pub over-loses : (over : Over) → IsOver w order budget kept at last old new over → LosesSome first last
  over-loses over is = closes-loses is.closed.moment over.close is.closed.closes

  pub came-loses : (why : NoTalk) → CameSoFar w order budget kept at last old new why → LosesSome first last
  came-loses why came = loses-more most first at last kept came.later came.moment.replies lost came.hears

-- what holds if the source told once the front was read holds if it told before
told-before : {A : Type 0} (before at : Option (List ℕ)) (bytes : List ℕ) → Consumes before at bytes → (IsSome at → A) → IsSome before → A
told-before None at bytes taken held told = absurd (false≢true told)
told-before (Some xs) None bytes taken held told = absurd taken
told-before (Some xs) (Some ys) bytes taken held told = held refl

module _ (schedule : ScheduleWord) (budget : ℕ) (old new : World) where
  -- A SESSION of the workload in front
  module _ (at : Option (List ℕ)) (w : WorkloadView) (kept : List ℕ) (ok : IsWorkload w) (front : HasFront old.left at w kept) (legal : SessionsAreLegal)
      (defined : SessionsEndAsDefined) where
    gave : (lines : List (List ℕ)) (later : List ℕ) → Hears kept later at new.left lines → GaveLines old.left new.left w lines later
    gave lines later hears = record {
      text = front.text;
      is = front.is;
      short = front.short;
      front = front.front;
      taken = subst (λ (v : List ℕ). Consumes old.left new.left v) (append_assoc front.text kept hears.got ∙ ap (λ v. front.text ++ v) hears.are)
          (Consumes-trans old.left at new.left (front.text ++ kept) hears.got front.taken hears.taken);
    }

    abbrev talked : (x : Moment) (later : List ℕ) → Reaches w (order_by schedule w) budget x.machine.event x → Hears kept later at new.left x.replies
        → Talked schedule budget old new
    talked x later reached hears = record {
      workload = w;
      moment = x;
      later = later;
      gave = gave x.replies later hears;
      reached = reached;
      legal = legal w (order_by schedule w) budget x.machine.event x ok reached;
      ends = defined w (order_by schedule w) budget x.machine.event x ok reached;
    }

    -- it could not go on
    stops : (why : NoTalk) → CameSoFar w (order_by schedule w) budget kept at new.left old.taken new.taken why
        → StopsSo schedule budget old new (WrittenFor why old.taken new.taken)
    stops why came = record { talked = talked came.moment came.later came.reached came.hears; went = came.taken }

    stopped-by : (why : NoTalk) → CameSoFar w (order_by schedule w) budget kept at new.left old.taken new.taken why → (reads : ℕ) → old.reads ≤ reads
        → FailsFor why reads new.reads old.writes new.writes → AnswersKernel schedule budget old new [] (status_of_no_talk why)
    stopped-by stopped.Read came reads more fails = (omega (arith, more, fails), refl, inr (stops stopped.Read came))
    stopped-by stopped.Write came reads more fails = (fails, inl (refl, stops stopped.Write came))
    stopped-by stopped.OutOfMemory came reads more fails = (refl, inr (stops stopped.OutOfMemory came))

    pub stopped-answers : (order : Order) (ran : Ran) (why : NoTalk) (status : Status) (reads : ℕ) → order ≡ order_by schedule w → ran ≡ Nothing
        → status ≡ status_of_no_talk why → old.reads ≤ reads → CameSoFar w order budget kept at new.left old.taken new.taken why
        → FailsFor why reads new.reads old.writes new.writes → AnswersKernel schedule budget old new (history ran) status
    stopped-answers order ran why status reads same none is more came fails =
        subst (λ (r : Ran). AnswersKernel schedule budget old new (history r) status) (sym none)
        (subst (λ (s : Status). AnswersKernel schedule budget old new [] s) (sym is)
        (stopped-by why (subst (λ (o : Order). CameSoFar w o budget kept at new.left old.taken new.taken why) same came) reads more fails))

    -- IT IS OVER: it ended, or a reply is refused
    module _ (mid : Option (List ℕ)) (right : WholeSessionsAreRight) where
      abbrev IsOverSo : (goes : List ℕ → Type 0) → List Item → Close → Type 0
      IsOverSo goes items (Ended e) = EndsSo schedule budget old new goes items e
      IsOverSo goes items (Refused line wrong) = RefusesSo schedule budget old new goes items (bad_reply line wrong)

      over-so : (goes : List ℕ → Type 0) (x : Moment) (close : Close) → Reaches w (order_by schedule w) budget x.machine.event x
          → Closes w (order_by schedule w) budget kept at new.left old.taken mid x close
          → ((said : List ℕ) → Appends old.taken mid said → goes (said ++ last_line_of x.machine.items (end_of_close close) x.machine.event))
          → IsOverSo goes x.machine.items close
      over-so goes x (Ended e) reached closes joins = record {
        talked = talked x closes.later reached closes.hears;
        shows = refl;
        ended = closes.ends;
        right = right w (order_by schedule w) budget x.machine.event x e ok reached closes.ends;
        went = joins x.text closes.taken;
      }
      over-so goes x (Refused line wrong) reached closes joins = record {
        talked = talked x closes.later reached closes.hears;
        shows = refl;
        goes_on = closes.goes_on;
        asked = closes.asked;
        is_asked = closes.is_asked;
        wrong = wrong;
        is_wrong = closes.is_wrong;
        at_end = told-before old.left at (front.text ++ kept) front.taken closes.end;
        is_bad = ap (λ n. bad_reply n wrong) closes.counted;
        went = joins (said_at w (order_by schedule w) x) closes.taken;
      }

      -- with its last line, or a part of it
      line-joins : (line said : List ℕ) → Appends mid new.taken line → Appends old.taken mid said → TookAll old new (said ++ line)
      line-joins line said wrote took = Appends-trans old.taken mid new.taken said line took wrote

      part-joins : (line said : List ℕ) → AppendsPrefix mid new.taken line → Appends old.taken mid said → TookSome old new (said ++ line)
      part-joins line said cut took =
          prefix-behind old.taken mid new.taken (said ++ line) said line [] (ap (λ v. said ++ v) (sym (append-nil line))) took cut

      whole-answers : (items : List Item) (close : Close) → IsOverSo (TookAll old new) items close
          → AnswersKernel schedule budget old new items (status_of_close close)
      whole-answers items (Ended end.AllDone) over = over
      whole-answers items (Ended end.Stuck) over = over
      whole-answers items (Ended end.Budget) over = over
      whole-answers items (Refused line wrong) over = over

      cut-answers : (items : List Item) (close : Close) → IsOverSo (TookSome old new) items close → IsCut schedule budget old new items
      cut-answers items (Ended e) over = inr (inl (e, over))
      cut-answers items (Refused line wrong) over = inr (inr (bad_reply line wrong, over))

      over-by : (x : Moment) (close : Close) (writes : ℕ) (status : Status) → Reaches w (order_by schedule w) budget x.machine.event x
          → Closes w (order_by schedule w) budget kept at new.left old.taken mid x close → old.writes ≤ writes
          → Writes mid new.taken writes new.writes (last_line_of x.machine.items (end_of_close close) x.machine.event) (status_of_close close) status
          → AnswersKernel schedule budget old new x.machine.items status
      over-by x close writes status reached closes more (inl done) =
          let line = last_line_of x.machine.items (end_of_close close) x.machine.event in
          subst (λ (s : Status). AnswersKernel schedule budget old new x.machine.items s) (sym done.0)
          (whole-answers x.machine.items close (over-so (TookAll old new) x close reached closes (λ said. line-joins line said done.1)))
      over-by x close writes status reached closes more (inr cut) =
          let line = last_line_of x.machine.items (end_of_close close) x.machine.event in
          let risen : HasRisen writes new.writes = cut.1 in
          subst (λ (s : Status). AnswersKernel schedule budget old new x.machine.items s) (sym cut.0) (
            omega (arith, more, risen),
            cut-answers x.machine.items close (over-so (TookSome old new) x close reached closes (λ said. part-joins line said cut.2)),
          )

      over-whole : (over : Over) (ran : Ran) (writes : ℕ) (status : Status) → ran ≡ Plain over.trace → old.writes ≤ writes
          → IsOver w (order_by schedule w) budget kept at new.left old.taken mid over
          → Writes mid new.taken writes new.writes (last_line_of over.trace.items (end_of_close over.close) over.events) (status_of_close over.close) status
          → AnswersKernel schedule budget old new (history ran) status
      over-whole over ran writes status is more closed wrote =
          let x = closed.closed.moment in
          let close = over.close in
          let same : closed.machine ≡ x.machine = sym closed.closed.is in
          let items : over.trace.items ≡ x.machine.items = closed.items ∙ ap (λ m. m.items) same in
          let events : over.events ≡ x.machine.event = closed.events ∙ ap (λ m. m.event) same in
          let reached : Reaches w (order_by schedule w) budget x.machine.event x =
          subst (λ (n : ℕ). Reaches w (order_by schedule w) budget n x) (ap (λ m. m.event) same) closed.closed.reached in
          let line : last_line_of over.trace.items (end_of_close close) over.events ≡ last_line_of x.machine.items (end_of_close close) x.machine.event =
          ap (λ v. last_line_of v (end_of_close close) over.events) items ∙ ap (λ n. last_line_of x.machine.items (end_of_close close) n) events in
          subst (λ (r : Ran). AnswersKernel schedule budget old new (history r) status) (sym is)
          (subst (λ (v : List Item). AnswersKernel schedule budget old new v status) (sym items)
          (over-by x close writes status reached closed.closed.closes more
          (subst (λ (v : List ℕ). Writes mid new.taken writes new.writes v (status_of_close close) status) line wrote)))

      pub over-answers : (order : Order) (over : Over) (ran : Ran) (writes : ℕ) (status : Status) → order ≡ order_by schedule w → ran ≡ Plain over.trace
          → old.writes ≤ writes → IsOver w order budget kept at new.left old.taken mid over
          → Writes mid new.taken writes new.writes (last_line_of over.trace.items (end_of_close over.close) over.events) (status_of_close over.close) status
          → AnswersKernel schedule budget old new (history ran) status
      over-answers order over ran writes status same is more closed wrote =
          over-whole over ran writes status is more (subst (λ (o : Order). IsOver w o budget kept at new.left old.taken mid over) same closed) wrote

-- WHAT IS SAID OF WHAT STANDS IN FRONT
module _ (schedule : ScheduleWord) (budget : ℕ) (old new : World) where
  talked-not_refused : Talked schedule budget old new → (input : List ℕ) (bad : Bad) → old.left ≡ Some input
      → IsInputRefused BadAt (workload_part input) bad → ⊥
  talked-not_refused x input bad told refused =
      let same : x.gave.text ≡ workload_part input = told-is (λ (v : List ℕ). x.gave.text ≡ workload_part v) old.left input told x.gave.front in
      text-not_refused IsText BadAt all-parted x.gave.text x.workload bad x.gave.is x.gave.short
      (subst (λ (v : List ℕ). IsInputRefused BadAt v bad) (sym same) refused)

  cut-talked : (items : List Item) → IsCut schedule budget old new items → Talked schedule budget old new
  cut-talked items (inl stops) = stops.1.talked
  cut-talked items (inr (inl ends)) = ends.1.talked
  cut-talked items (inr (inr refuses)) = refuses.1.talked

  kernel-talks : (items : List Item) (status : Status) → AnswersKernel schedule budget old new items status → Talks old new status
  kernel-talks items AllDone answers = λ input w told is short reads writes. inl tt
  kernel-talks items Stuck answers = λ input w told is short reads writes. inl tt
  kernel-talks items Budget answers = λ input w told is short reads writes. inl tt
  kernel-talks items (BadReply bad) answers = λ input w told is short reads writes. inl tt
  kernel-talks items OutOfMemory answers = λ input w told is short reads writes. inr refl
  kernel-talks items ReadFault answers = λ input w told is short reads writes. absurd (reads answers.0)
  kernel-talks items WriteFault answers = λ input w told is short reads writes. absurd (writes answers.0)
  kernel-talks items (BadWorkload bad) answers = λ input w told is short reads writes.
      absurd (text-not_refused IsText BadAt all-parted (workload_part input) w bad is short
      (told-is (λ (v : List ℕ). IsInputRefused BadAt (workload_part v) bad) old.left input told answers.0))
  kernel-talks items _ answers = absurd answers

  kernel-refuses : (items : List Item) (status : Status) → AnswersKernel schedule budget old new items status → RefusesFront old new status
  kernel-refuses items AllDone answers = λ input bad told refused reads. absurd (talked-not_refused answers.talked input bad told refused)
  kernel-refuses items Stuck answers = λ input bad told refused reads. absurd (talked-not_refused answers.talked input bad told refused)
  kernel-refuses items Budget answers = λ input bad told refused reads. absurd (talked-not_refused answers.talked input bad told refused)
  kernel-refuses items (BadReply wrong) answers = λ input bad told refused reads. absurd (talked-not_refused answers.talked input bad told refused)
  kernel-refuses items OutOfMemory answers = λ input bad told refused reads. inr refl
  kernel-refuses items ReadFault answers = λ input bad told refused reads. absurd (reads answers.0)
  kernel-refuses items WriteFault answers = λ input bad told refused reads.
      absurd (talked-not_refused (cut-talked items answers.1) input bad told refused)
  kernel-refuses items (BadWorkload other) answers = λ input bad told refused reads.
      inl (ap BadWorkload (refused-once IsText BadAt all-parted (workload_part input) other bad
      (told-is (λ (v : List ℕ). IsInputRefused BadAt (workload_part v) other) old.left input told answers.0) refused))
  kernel-refuses items _ answers = absurd answers

  -- it is complete
  pub kernel-complete : (items : List Item) (status : Status) → AnswersKernel schedule budget old new items status
      → Talks old new status × RefusesFront old new status
  kernel-complete items status answers = (kernel-talks items status answers, kernel-refuses items status answers)
