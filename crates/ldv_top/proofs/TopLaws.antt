-- The clauses of the parts of the top call, taken together.
use Rattle.std.proofs.Common.{◌≡◌, ◌≢◌, ◌<◌, ◌≤◌, ℕ, List, [], ◌++◌, length, refl, sym, ap, ◌∙◌, subst, append-nil, inl, inr}
use Rattle.std.specs.Prelude.{Option, Some, None, is_some, IfSome, ◌⊎◌, true, false}
use Rattle.std.specs.Io.KnownBytes.{Consumes, IsAtEnd}
use Rattle.ldv_io.specs.Causes.{Rose}
use Rattle.run_model.specs.declared.package.Mode.{Mode}
use Rattle.run_model.specs.declared.package.Mode.TheVariants.{Excluded}
use Rattle.run_model.specs.declared.world.World.{World}
use Rattle.run_model.specs.WorldRun.{events_within, steps_by}
use Rattle.free_order.specs.Private.{private_test}
use Rattle.ldv_top.specs.Comes.{Comes, IsQuiet}
use Rattle.ldv_top.specs.Due.{DueOutput, due_of, due_record, due_replay, due_replay_seed, due_world, is_too_long}
use Rattle.ldv_top.specs.DueOfMigrations.{due_migrate}
use Rattle.ldv_top.specs.DueOfReports.{due_inspect}
use Rattle.ldv_top.specs.Ends.{Ends, Responds}
use Rattle.ldv_top.specs.Headline.{IsPackageOf, IsRecording}
use Rattle.ldv_top.specs.Migrated.{IsMigration}
use Rattle.ldv_top.specs.ProvReported.{DocumentLaw, due_by_numbers}
use Rattle.ldv_top.specs.Reported.{Depends}
use Rattle.ldv_top.specs.TwoRuns.{AnyJoinedLaw, PairLaw, TwoRunsLaw}
use Rattle.ldv_top.specs.Words.{command_of, reads}
use Rattle.ldv_top.specs.declared.command.Command.{Command}
use Rattle.ldv_top.specs.declared.command.Command.TheVariants.{Run, Record, Replay, ReplaySeed, Audit, Table}
use Rattle.ldv_top.specs.declared.command.Command.TheVariants.{Inspect, Generate, Migrate, Prov, ProvDepends}
use Rattle.ldv_top.specs.declared.command.Command.TheVariants.{Join, ReplayRun}
use Rattle.ldv_top.specs.declared.command.Report.TheVariants.{Depends as DependsOn}
use Rattle.ldv_top.specs.declared.exit.Exit.{Exit}
use Rattle.ldv_top.specs.declared.exit.Exit.TheVariants.{Done, Usage, ReadFault, WriteFault, TooLong}
use Rattle.ldv_top.specs.declared.exit.Exit.TheVariants.{NotWorld, NotEnded, Damaged, Diverged, NoSuch}
use Rattle.ldv_top.specs.declared.exit.Exit.TheVariants.{NoMemory, PackageTooLong, NotPrivate, NotProv, Clash}
use Rattle.ldv_top.proofs.DocumentLaws.{named_same}

-- what was read to the end is all that there was
pub got_all : (old new : Option (List ℕ)) (got input : List ℕ) → old ≡ Some input → Consumes old new got → IsAtEnd new → got ≡ input
got_all None new got input told whole end = cc
got_all (Some xs) None got input told whole end = absurd whole
got_all (Some xs) (Some ys) got input told whole end =
    let same : xs ≡ input = cc in
    sym (append-nil got) ∙ sym (ap (λ (l : List ℕ). got ++ l) end) ∙ sym whole ∙ same

-- what is due to be done is done, where nothing fails
pub complete : (d : DueOutput) (e : Exit) (old new : Option (List ℕ)) (R W : Type 0) → Comes d e old new → d.exit ≡ Done → (e ≡ ReadFault → R) → (e ≡ WriteFault → W) → (R → ⊥) → (W → ⊥) → (e ≡ Done) ⊎ (e ≡ NoMemory)
complete d Done old new R W out is read write no_read no_write = inl refl
complete d NoMemory old new R W out is read write no_read no_write = inr refl
complete d ReadFault old new R W out is read write no_read no_write = absurd (no_read (read refl))
complete d WriteFault old new R W out is read write no_read no_write = absurd (no_write (write refl))
complete d Usage old new R W out is read write no_read no_write = let e : Usage ≡ Done = sym out ∙ is in cc
complete d TooLong old new R W out is read write no_read no_write = let e : TooLong ≡ Done = sym out ∙ is in cc
complete d (NotWorld fault) old new R W out is read write no_read no_write = let e : NotWorld fault ≡ Done = sym out ∙ is in cc
complete d (NotEnded steps) old new R W out is read write no_read no_write = let e : NotEnded steps ≡ Done = sym out ∙ is in cc
complete d (Damaged kind) old new R W out is read write no_read no_write = let e : Damaged kind ≡ Done = sym out ∙ is in cc
complete d (Diverged process index) old new R W out is read write no_read no_write = let e : Diverged process index ≡ Done = sym out ∙ is in cc
complete d NoSuch old new R W out is read write no_read no_write = let e : NoSuch ≡ Done = sym out ∙ is in cc
complete d PackageTooLong old new R W out is read write no_read no_write = let e : PackageTooLong ≡ Done = sym out ∙ is in cc
complete d (Clash clash) old new R W out is read write no_read no_write = let e : Clash clash ≡ Done = sym out ∙ is in cc
complete d NotPrivate old new R W out is read write no_read no_write = let e : NotPrivate ≡ Done = sym out ∙ is in cc
complete d NotProv old new R W out is read write no_read no_write = let e : NotProv ≡ Done = sym out ∙ is in cc

-- what is due for a command that reads nothing is the same for every input
pub due_unread : (command : Command) → reads (Some command) ≡ false → (given input : List ℕ) → due_of (Some command) given ≡ due_of (Some command) input
due_unread (Run budget) unread given input = let never : true ≡ false = unread in cc
due_unread (Record mode budget) unread given input = let never : true ≡ false = unread in cc
due_unread (Replay budget) unread given input = let never : true ≡ false = unread in cc
due_unread (ReplaySeed seed budget) unread given input = let never : true ≡ false = unread in cc
due_unread (ReplayRun which budget) unread given input = let never : true ≡ false = unread in cc
due_unread Join unread given input = let never : true ≡ false = unread in cc
due_unread (Audit budget) unread given input = let never : true ≡ false = unread in cc
due_unread (Table name step budget) unread given input = let never : true ≡ false = unread in cc
due_unread (Inspect report) unread given input = let never : true ≡ false = unread in cc
due_unread (Generate orders) unread given input = refl
due_unread Migrate unread given input = let never : true ≡ false = unread in cc
due_unread Prov unread given input = let never : true ≡ false = unread in cc
due_unread (ProvDepends path) unread given input = let never : true ≡ false = unread in cc

-- an input that is too long is due to be refused, whichever command reads it
pub too_long_due : (command : Command) → reads (Some command) ≡ true → (input : List ℕ) → is_too_long input ≡ true
    → (due_of (Some command) input).exit ≡ TooLong
too_long_due (Run budget) reading input long = rw long refl
too_long_due (Record mode budget) reading input long = rw long refl
too_long_due (Replay budget) reading input long = rw long refl
too_long_due (ReplaySeed seed budget) reading input long = rw long refl
too_long_due (ReplayRun which budget) reading input long = rw long refl
too_long_due Join reading input long = rw long refl
too_long_due (Audit budget) reading input long = rw long refl
too_long_due (Table name step budget) reading input long = rw long refl
too_long_due (Inspect report) reading input long = rw long refl
too_long_due (Generate orders) reading input long = let never : false ≡ true = reading in cc
too_long_due Migrate reading input long = rw long refl
too_long_due Prov reading input long = rw long refl
too_long_due (ProvDepends path) reading input long = rw long refl

-- what a source has is longer than a limit
pub longer : (left : Option (List ℕ)) (limit : ℕ) (input : List ℕ) → left ≡ Some input → IfSome left (λ bytes. limit < length bytes)
    → limit < length input
longer None limit input told long = let never : None ≡ Some input = told in cc
longer (Some bytes) limit input told long =
    let same : bytes ≡ input = cc in
    subst (λ (l : List ℕ). limit < length l) same long

some_same : {a b : Command} → Some a ≡ Some b → a ≡ b
some_same same = cc

-- ---- the clauses of the whole program

module _ {Reader Writer : Type 0} (left : Reader → Option (List ℕ)) (read_faults : Reader → ℕ) (taken : Writer → Option (List ℕ)) (write_faults : Writer → ℕ) (words : List (List ℕ)) where
  -- words that are no command
  pub usage_ends : (source : Reader) (sink : Writer) → command_of words ≡ None
      → Ends left read_faults taken write_faults words source source sink sink Usage
  usage_ends source sink none = record {
    usage = (λ is. none, λ is. refl);
    unread = λ is. refl;
    read_fault = λ is. let never : Usage ≡ ReadFault = is in cc;
    write_fault = λ is. let never : Usage ≡ WriteFault = is in cc;
    due = λ input is. ap (λ (o : Option Command). (due_of o input).exit) none;
    unwritten = λ quiet. refl;
    all_read = λ is reading. let never : Usage ≡ Done = is in cc;
    complete = λ input is done no_read no_write.
        let never : Usage ≡ Done = sym (ap (λ (o : Option Command). (due_of o input).exit) none) ∙ done in cc;
    recorded = λ mode budget document is told done. let never : Usage ≡ Done = done in cc;
    headline = λ mode n budget w input is told packed enough.
        let never : None ≡ Some (Replay budget) = sym none ∙ is in cc;
    reseeded = λ n seed budget w input is told packed private enough.
        let never : None ≡ Some (ReplaySeed seed budget) = sym none ∙ is in cc;
    migrated = λ input is told done. let never : Usage ≡ Done = done in cc;
    depends = λ path input is told done. let never : Usage ≡ Done = done in cc;
    documented = λ p path input is told document.
        let never : None ≡ Some (ProvDepends path) = sym none ∙ is in cc;
    joins = λ n m v w input is told pair. let never : None ≡ Some Join = sym none ∙ is in cc;
    joined = λ which n m budget v w input is told two enough.
        let never : None ≡ Some (ReplayRun which budget) = sym none ∙ is in cc;
    chosen = λ which budget j input is told any.
        let never : None ≡ Some (ReplayRun which budget) = sym none ∙ is in cc;
  }

  -- words that are a command, where memory ran out while they were read
  pub memory_ends : (source : Reader) (sink : Writer) → is_some (command_of words) ≡ true
      → Ends left read_faults taken write_faults words source source sink sink NoMemory
  memory_ends source sink some = record {
    usage = (
      λ is. let never : NoMemory ≡ Usage = is in cc,
      λ none. let never : false ≡ true = sym (ap (λ (o : Option Command). is_some o) none) ∙ some in cc,
    );
    unread = λ is. refl;
    read_fault = λ is. let never : NoMemory ≡ ReadFault = is in cc;
    write_fault = λ is. let never : NoMemory ≡ WriteFault = is in cc;
    due = λ input is. tt;
    unwritten = λ quiet. refl;
    all_read = λ is reading. let never : NoMemory ≡ Done = is in cc;
    complete = λ input is done no_read no_write. inr refl;
    recorded = λ mode budget document is told done. let never : NoMemory ≡ Done = done in cc;
    headline = λ mode n budget w input is told packed enough. tt;
    reseeded = λ n seed budget w input is told packed private enough. tt;
    migrated = λ input is told done. let never : NoMemory ≡ Done = done in cc;
    depends = λ path input is told done. let never : NoMemory ≡ Done = done in cc;
    documented = λ p path input is told document. (named_same p path, tt);
    joins = λ n m v w input is told pair. tt;
    joined = λ which n m budget v w input is told two enough. tt;
    chosen = λ which budget j input is told any. tt;
  }

  -- a command that reads nothing
  pub unread_ends : (command : Command) → command_of words ≡ Some command → reads (Some command) ≡ false
      → (source : Reader) (sink sink_after : Writer) (exit : Exit)
      → ((input : List ℕ) → Responds taken write_faults (due_of (Some command) input) sink sink_after exit)
      → Ends left read_faults taken write_faults words source source sink sink_after exit
  unread_ends command is unread source sink sink_after exit responds =
      let one = responds [] in
      let due : (input : List ℕ) → Comes (due_of (command_of words) input) exit (taken sink) (taken sink_after) =
      λ input. subst (λ (o : Option Command). Comes (due_of o input) exit (taken sink) (taken sink_after)) (sym is) (responds input).due in
      let none_read : reads (command_of words) ≡ false = ap reads is ∙ unread in
      record {
        usage = (λ used. absurd (one.not_usage used), λ none. let never : None ≡ Some command = sym none ∙ is in cc);
        unread = λ none. refl;
        read_fault = λ failed. absurd (one.not_read failed);
        write_fault = one.write_fault;
        due = λ input told. due input;
        unwritten = one.unwritten;
        all_read = λ done reading. let never : false ≡ true = sym none_read ∙ reading in cc;
        complete = λ input told done no_read no_write.
            complete (due_of (command_of words) input) exit (taken sink) (taken sink_after) _ _
            (due input) done (λ failed. absurd (one.not_read failed)) one.write_fault no_read no_write;
        recorded = λ mode budget document named told done.
            let never : false ≡ true = sym none_read ∙ ap reads named in cc;
        headline = λ mode n budget w input named told packed enough.
            let never : false ≡ true = sym none_read ∙ ap reads named in cc;
        reseeded = λ n seed budget w input named told packed private enough.
            let never : false ≡ true = sym none_read ∙ ap reads named in cc;
        migrated = λ input named told done. let never : false ≡ true = sym none_read ∙ ap reads named in cc;
        depends = λ path input named told done. let never : false ≡ true = sym none_read ∙ ap reads named in cc;
        documented = λ p path input named told document.
            let never : false ≡ true = sym none_read ∙ ap reads named in cc;
        joins = λ n m v w input named told pair. let never : false ≡ true = sym none_read ∙ ap reads named in cc;
        joined = λ which n m budget v w input named told two enough.
            let never : false ≡ true = sym none_read ∙ ap reads named in cc;
        chosen = λ which budget j input named told any.
            let never : false ≡ true = sym none_read ∙ ap reads named in cc;
      }

  -- a command that reads its input, of which the parts are known
  module _ (command : Command) (is : command_of words ≡ Some command) (reading : reads (Some command) ≡ true) (source source_after : Reader) (sink sink_after : Writer) (exit : Exit)
      (read_fault : exit ≡ ReadFault → Rose (read_faults source) (read_faults source_after))
      (write_fault : exit ≡ WriteFault → Rose (write_faults sink) (write_faults sink_after))
      (due : (input : List ℕ) → left source ≡ Some input
      → Comes (due_of (Some command) input) exit (taken sink) (taken sink_after))
      (recorded : (mode : Mode) (budget : ℕ) (document : List ℕ) → command ≡ Record mode budget
      → left source ≡ Some document → exit ≡ Done
      → IsRecording mode budget document (due_record mode budget document).bytes)
      (migrated : (input : List ℕ) → command ≡ Migrate → left source ≡ Some input → exit ≡ Done
      → IsMigration input (due_migrate input).bytes)
      (unwritten : IsQuiet exit → sink_after ≡ sink)
      (at_end : exit ≡ Done → IsAtEnd (left source_after))
      (not_usage : exit ≢ Usage)
      (replayed : (mode : Mode) (n budget : ℕ) (w : World) (input : List ℕ) → IsPackageOf mode n w input
      → steps_by n [] w ≤ budget → due_replay budget input ≡ due_world n w)
      (any_seed : (n seed budget : ℕ) (w : World) (input : List ℕ) → IsPackageOf Excluded n w input
      → private_test (events_within n w) ≡ true → steps_by n [] w ≤ budget
      → due_replay_seed seed budget input ≡ due_world n w)
      (reported : (path input : List ℕ) → (due_inspect (DependsOn path) input).exit ≡ Done
      → Depends path input (due_inspect (DependsOn path) input).bytes)
      (document : DocumentLaw) (pair : PairLaw) (two_runs : TwoRunsLaw) (any_joined : AnyJoinedLaw) where
    reads_input : reads (command_of words) ≡ true
    reads_input = ap reads is ∙ reading

    pub command_ends : Ends left read_faults taken write_faults words source source_after sink sink_after exit
    command_ends = record {
      usage = (λ used. absurd (not_usage used), λ none. let never : None ≡ Some command = sym none ∙ is in cc);
      unread = λ none. let never : false ≡ true = sym none ∙ reads_input in cc;
      read_fault = read_fault;
      write_fault = write_fault;
      due = λ input told.
          subst (λ (o : Option Command). Comes (due_of o input) exit (taken sink) (taken sink_after)) (sym is)
          (due input (told reads_input));
      unwritten = unwritten;
      all_read = λ done reading. at_end done;
      complete = λ input told done no_read no_write.
          complete (due_of (Some command) input) exit (taken sink) (taken sink_after) _ _
          (due input (told reads_input))
          (sym (ap (λ (o : Option Command). (due_of o input).exit) is) ∙ done) read_fault write_fault no_read no_write;
      recorded = λ mode budget document named told done.
          let same : Some command ≡ Some (Record mode budget) = sym is ∙ named in
          recorded mode budget document (some_same same) told done;
      headline = λ mode n budget w input named told packed enough.
          let same : Some command ≡ Some (Replay budget) = sym is ∙ named in
          subst (λ (d : DueOutput). Comes d exit (taken sink) (taken sink_after))
          (ap (λ (k : Command). due_of (Some k) input) (some_same same) ∙ replayed mode n budget w input packed enough)
          (due input told);
      reseeded = λ n seed budget w input named told packed private enough.
          let same : Some command ≡ Some (ReplaySeed seed budget) = sym is ∙ named in
          subst (λ (d : DueOutput). Comes d exit (taken sink) (taken sink_after))
          (ap (λ (k : Command). due_of (Some k) input) (some_same same)
          ∙ any_seed n seed budget w input packed private enough)
          (due input told);
      migrated = λ input named told done.
          let same : Some command ≡ Some Migrate = sym is ∙ named in
          migrated input (some_same same) told done;
      depends = λ path input named told done.
          let same : Some command ≡ Some (Inspect (DependsOn path)) = sym is ∙ named in
          let comes : Comes (due_of (Some command) input) Done (taken sink) (taken sink_after) =
          subst (λ (e : Exit). Comes (due_of (Some command) input) e (taken sink) (taken sink_after)) done (due input told) in
          reported path input (sym (ap (λ (k : Command). (due_of (Some k) input).exit) (some_same same)) ∙ comes.0);
      documented = λ p path input named told written.
          let same : Some command ≡ Some (ProvDepends path) = sym is ∙ named in
          let comes : Comes (due_by_numbers p path) exit (taken sink) (taken sink_after) =
          subst (λ (d : DueOutput). Comes d exit (taken sink) (taken sink_after))
          (ap (λ (k : Command). due_of (Some k) input) (some_same same) ∙ document p path input written)
          (due input told) in
          (named_same p path, comes);
      joins = λ n m v w input named told both.
          let same : Some command ≡ Some Join = sym is ∙ named in
          subst (λ (d : DueOutput). Comes d exit (taken sink) (taken sink_after))
          (ap (λ (k : Command). due_of (Some k) input) (some_same same) ∙ pair n m v w input both)
          (due input told);
      joined = λ which n m budget v w input named told two enough.
          let same : Some command ≡ Some (ReplayRun which budget) = sym is ∙ named in
          subst (λ (d : DueOutput). Comes d exit (taken sink) (taken sink_after))
          (ap (λ (k : Command). due_of (Some k) input) (some_same same) ∙ two_runs which n m budget v w input two enough)
          (due input told);
      chosen = λ which budget j input named told any.
          let same : Some command ≡ Some (ReplayRun which budget) = sym is ∙ named in
          subst (λ (d : DueOutput). Comes d exit (taken sink) (taken sink_after))
          (ap (λ (k : Command). due_of (Some k) input) (some_same same) ∙ any_joined which budget j input any)
          (due input told);
    }
