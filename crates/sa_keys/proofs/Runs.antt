-- Of two machines of runs of one workload: equal keys have equal looks. And the bytes of an outcome say it.
use Rattle.std.proofs.Common.{◌≡◌, ℕ, ◌<◌, ◌≤◌, ◌++◌, false, List, [], length, get_or, Option, Some, None, slice_get, is_some, sym, ap, ◌∙◌, subst, inl, inr, arith}
use Rattle.std.proofs.lemmas.Bool.{cases_lt}
use Rattle.std.proofs.lemmas.Option.{slice_get_cases, slice_get_within}
use Rattle.std.proofs.lemmas.List.{get_or_past, ext_get_or}
use Rattle.sa_base.specs.declared.number.SpaceNo.{SpaceNo}
use Rattle.sa_base.specs.declared.record.Note.{Note}
use Rattle.sa_base.specs.declared.limits.TheConstants.{MAX_SPACES}
use Rattle.sa_spaces.specs.Space.{SpaceView}
use Rattle.sa_spaces.specs.Workload.{WorkloadView}
use Rattle.sa_abstract.specs.Calls.{Calls}
use Rattle.sa_abstract.specs.Keeps.{Standing, Keeps}
use Rattle.sa_kernel_model.specs.State.{taken_of}
use Rattle.sa_core_model.specs.Machine.{Machine}
use Rattle.sa_core_model.specs.Run.{setting}
use Rattle.sa_core_model.specs.Standing.{contexts_of}
use Rattle.sa_outlook.specs.UserLevels.{IgnoresNumbers}
use Rattle.sa_outlook.specs.Nameless.{nameless_notes}
use Rattle.sa_outlook.specs.declared.put.Put.{Put}
use Rattle.sa_outlook.specs.declared.put.Telling.{Telling}
use Rattle.sa_outlook.specs.declared.put.Telling.TheVariants.{Cells, Outs}
use Rattle.sa_outlook.specs.Outs.{outs_of}
use Rattle.sa_outlook.specs.Look.{Look, look_by}
use Rattle.sa_outlook.specs.Outlook.{Outlook, outlook, look_in, untold_notes, nameless_ios, see, see_at, held_by}
use Rattle.sa_outlook.proofs.Invariant.{Invariant}
use Rattle.sa_outlook.proofs.outlooks.AlikeOutlooks.{outlook-of-key}
use Rattle.sa_outlook.proofs.outlooks.Runs.{of-run}
use Rattle.sa_package_keys.specs.Codes.{IsPrefixCode}
use Rattle.sa_keys.specs.Key.{key_of}
use Rattle.sa_package_keys.specs.Values.{TellsValues}
use Rattle.sa_package_keys.proofs.Codes.{list-code}
use Rattle.sa_keys.specs.Outs.{put_key, look_key}
use Rattle.sa_keys.proofs.PutLemmas.{put-code}
use Rattle.sa_keys.specs.Laws.{KeysTellOutlooks, KeysTellLooks}
use Rattle.sa_keys.proofs.Outlooks.{key-tells}

abbrev look_with : {U D : Type 0} → Outlook U D → List Put → Look U D
look_with o outs = record { outlook = o; outs = outs }

module _ {U C D : Type 0} (f : Calls U C) (plain : Option SpaceView → C → D) (stands : Standing U C) (user : U → List ℕ) (ctx : D → List ℕ)
    (ctx-code : IsPrefixCode ctx) (IsMade : Option SpaceView → U → Type 0) (tells : TellsValues stands IsMade user) where
  -- facts of the numbers below n, and of those from n on
  by-place : {A : Type 0} (g h : ℕ → A) (n : ℕ) → ((i : ℕ) → i < n → g i ≡ h i) → ((i : ℕ) → n ≤ i → g i ≡ h i) → (i : ℕ) → g i ≡ h i
  by-place g h n low past i = elim (cases_lt i n) [ inl less ↦ low i less | inr more ↦ past i more ]

  -- the values of one space
  values : (m n : Machine U C) → Invariant stands IsMade m → Invariant stands IsMade n → m.workload ≡ n.workload → (i : ℕ) (u v : U) (r s : List ℕ)
      → slice_get m.users i ≡ Some u → slice_get n.users i ≡ Some v → user u ++ r ≡ user v ++ s → (u ≡ v) × (r ≡ s)
  values m n om on workload i u v r s is_u is_v same = elim (slice_get_cases m.workload.spaces i).1 [
    | inl h ↦
        let def = h.0 in
        let is_m : slice_get m.workload.spaces i ≡ Some def = h.2 in
        let is_n : slice_get n.workload.spaces i ≡ Some def = ap (λ (w : WorkloadView). slice_get w.spaces i) (sym workload) ∙ is_m in
        let left = om.between.standing.values i u def is_u is_m in
        let right = on.between.standing.values i v def is_v is_n in
        tells (setting m.workload i def) m.event n.event u v (contexts_of m i) (contexts_of n i) r s left
        (subst (λ (w : WorkloadView). stands (setting w i def) n.event v (contexts_of n i)) (sym workload) right)
        (subst (λ (d : Option SpaceView). IsMade d u) is_m (om.regular.made i u is_u))
        (subst (λ (d : Option SpaceView). IsMade d v) is_n (on.regular.made i v is_v)) same
    | inr h ↦
        let high : length m.workload.spaces ≤ i = h.0 in
        let low : i < length m.users = slice_get_within m.users i u is_u in
        let count : length m.users ≡ length m.workload.spaces = om.between.standing.users in
        absurd (omega arith)
  ]

  -- two machines that stand between events
  between-tells : (m n : Machine U C) → Invariant stands IsMade m → Invariant stands IsMade n → m.workload ≡ n.workload
      → key_of user ctx (outlook plain m) ≡ key_of user ctx (outlook plain n) → outlook plain m ≡ outlook plain n
  between-tells m n om on workload same =
      let a = om.between.standing in let b = on.between.standing in
      let x = a.sound.formed.sizes in let y = b.sound.formed.sizes in
      let processors : m.workload.processors ≡ n.workload.processors = ap (λ (w : WorkloadView). w.processors) workload in
      let spaces : length m.workload.spaces ≡ length n.workload.spaces = ap (λ (w : WorkloadView). length w.spaces) workload in
      let lives : length m.kernel.lives ≡ length n.kernel.lives = a.lives ∙ processors ∙ sym b.lives in
      let owners : length m.kernel.assign.owners ≡ length n.kernel.assign.owners = x.owners ∙ lives ∙ sym y.owners in
      let aims : length m.kernel.assign.aims ≡ length n.kernel.assign.aims = x.aims ∙ lives ∙ sym y.aims in
      let marks : length m.kernel.assign.marks ≡ length n.kernel.assign.marks = x.marks ∙ lives ∙ sym y.marks in
      let demands : length m.kernel.demands ≡ length n.kernel.demands = a.demands ∙ spaces ∙ sym b.demands in
      let users : length m.users ≡ length n.users = a.users ∙ spaces ∙ sym b.users in
      let told = key-tells ctx ctx-code (outlook plain m) (outlook plain n) user owners users demands (values m n om on workload) same in
      outlook-of-key plain m n workload (record {
        owners = ext_get_or None m.kernel.assign.owners n.kernel.assign.owners owners (λ p high. (told.processors p high).owner);
        aims = ext_get_or None m.kernel.assign.aims n.kernel.assign.aims aims (λ p high. (told.processors p (omega arith)).aim);
        raised = λ p. by-place (λ q. is_some (get_or m.kernel.assign.lines q None)) (λ q. is_some (get_or n.kernel.assign.lines q None))
            (length m.kernel.assign.owners) (λ q low. (told.processors q low).raised)
            (λ q past. ap (λ (l : Option ℕ). is_some l) (get_or_past m.kernel.assign.lines q None (omega arith)
            ∙ sym (get_or_past n.kernel.assign.lines q None (omega arith)))) p;
        marks = ext_get_or false m.kernel.assign.marks n.kernel.assign.marks marks (λ p high. (told.processors p (omega arith)).mark);
        contexts = λ p. by-place (see_at plain m) (see_at plain n) (length m.kernel.assign.owners) (λ q low. (told.processors q low).context)
            (λ q past. ap (λ (s : Option SpaceNo). see plain m.workload s (get_or m.contexts q None)) (get_or_past m.kernel.assign.owners q None past)
            ∙ sym (ap (λ (s : Option SpaceNo). see plain n.workload s (get_or n.contexts q None))
            (get_or_past n.kernel.assign.owners q None (omega arith)))) p;
        users = told.users;
        taken = λ s. by-place (λ i. length (taken_of m.kernel i)) (λ i. length (taken_of n.kernel i)) MAX_SPACES told.taken
            (λ i past. ap length (get_or_past m.kernel.taken i [] (omega arith) ∙ sym (get_or_past n.kernel.taken i [] (omega arith)))) s;
        demands = ext_get_or 0 m.kernel.demands n.kernel.demands demands (λ s high. (told.spaces s high).demand);
        untold = λ s. by-place (λ i. untold_notes (look_in plain m.workload) m.kernel i) (λ i. untold_notes (look_in plain m.workload) n.kernel i)
            (length m.kernel.demands)
            (λ i low. (told.spaces i low).untold ∙ ap (λ (w : WorkloadView). untold_notes (look_in plain w) n.kernel i) (sym workload))
            (λ i past. ap (λ (ns : List Note). nameless_notes (look_in plain m.workload) i (held_by m.kernel) ns) (get_or_past m.kernel.untold i [] (omega arith))
            ∙ sym (ap (λ (ns : List Note). nameless_notes (look_in plain m.workload) i (held_by n.kernel) ns)
            (get_or_past n.kernel.untold i [] (omega arith)))) s;
        pages = ext_get_or 0 m.kernel.pages n.kernel.pages (x.pages ∙ demands ∙ sym y.pages) (λ s high. (told.spaces s (omega arith)).page);
        ios = told.ios ∙ ap (λ (w : WorkloadView). nameless_ios (look_in plain w) n.event n.kernel) (sym workload);
        first = told.first;
        beat = told.beat;
        until = told.until;
      })

  looks-tell : (tell : Telling) (m n : Machine U C) → Invariant stands IsMade m → Invariant stands IsMade n → m.workload ≡ n.workload
      → look_key user ctx tell (look_by plain tell m) ≡ look_key user ctx tell (look_by plain tell n) → look_by plain tell m ≡ look_by plain tell n
  looks-tell Cells m n om on workload same = ap (λ (o : Outlook U D). look_with o []) (between-tells m n om on workload same)
  looks-tell Outs m n om on workload same =
      let both = list-code put_key put-code (outs_of m.items) (outs_of n.items) (key_of user ctx (outlook plain m)) (key_of user ctx (outlook plain n)) same in
      ap (λ (o : Outlook U D). look_with o (outs_of m.items)) (between-tells m n om on workload both.1)
      ∙ ap (look_with (outlook plain n)) both.0

  pub keys-tell-looks : IgnoresNumbers f plain IsMade → Keeps f stands → KeysTellLooks f plain user ctx
  keys-tell-looks ignores keeps tell m n of_m of_n workload same =
      looks-tell tell m n (of-run f plain IsMade ignores stands keeps m of_m) (of-run f plain IsMade ignores stands keeps n of_n) workload same

  pub keys-tell-outlooks : IgnoresNumbers f plain IsMade → Keeps f stands → KeysTellOutlooks f plain user ctx
  keys-tell-outlooks ignores keeps m n of_m of_n workload same =
      between-tells m n (of-run f plain IsMade ignores stands keeps m of_m) (of-run f plain IsMade ignores stands keeps n of_n) workload same
