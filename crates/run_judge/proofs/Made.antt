-- The certificate of a document is of the run that its turns give.
use Rattle.std.proofs.Common.{◌≡◌, ◌∙◌, ◌≤◌, ℕ, List, [], length, refl, sym, ap, subst, arith}
use Rattle.std.specs.Prelude.{Ok, Err}
use Rattle.std.specs.List.{list_all}
use Rattle.std.proofs.lemmas.List.{length-map}
use Rattle.norm_lang.specs.declared.text.Text.{Text}
use Rattle.source_machine.specs.declared.event.SourceEvent.{SourceEvent}
use Rattle.norm_lang.specs.declared.reply.SourceReply.{SourceReply}
use Rattle.source_machine.specs.Proper.{IsProper}
use Rattle.source_machine.proofs.Reached.{fewer_are_proper}
use Rattle.barrier_check.specs.Paired.{IsSound}
use Rattle.caller_parts.specs.Settings.{IsSetting}
use Rattle.core_ground.proofs.Runnable.{runnable}
use Rattle.core_runs.specs.Machine.{CoreState, Reachable, core_start}
use Rattle.core_runs.specs.Replays.{replayed}
use Rattle.core_runs.proofs.Replaying.{replays_reach}
use Rattle.core_runs.proofs.core_sound.Reached.{states_are_sound}
use Rattle.oa_core.specs.Finals.{replay_limit}
use Rattle.documents.specs.declared.document.Document.{Document}
use Rattle.script_plans.specs.declared.plan.Plan.{Plan}
use Rattle.script_plans.specs.Shapes.{setting_of}
use Rattle.script_plans.specs.Plans.{target_of, calls_of, plan_for, IsRunnable, IsPlanned, IsReady}
use Rattle.replay_logs.specs.declared.error.LogError.{LogError}
use Rattle.replay_logs.specs.declared.error.LogError.TheVariants as errors
use Rattle.replay_logs.specs.declared.replaying.LoggedRun.{LoggedRun}
use Rattle.replay_logs.specs.Logged.{TellsRun, IsLogged}
use Rattle.document_runs.specs.Runs.{IsCompleteRunOf}
use Rattle.certificates.specs.declared.certificate.Certificate.{Certificate}
use Rattle.certificates.specs.CertificateLaws.{IsTold}
use Rattle.event_judge.specs.declared.verdict.Verdict.TheVariants.{Accepted}
use Rattle.event_judge.specs.Judging.{verdict_on}
use Rattle.documents.specs.DocumentRead.{IsDocument}
use Rattle.certificate_laws.specs.Certified.{replies_in, RunsAreAccepted}
use Rattle.run_judge.specs.Judged.{verdict_of}
use Rattle.run_judge.specs.Made.{certificate_limit, certificate_replay, plan_logged, certificate_given, making_fault_of, IsMakingFaultOf, IsCertificateOf}
use Rattle.run_judge.proofs.Lengthening.{replay_lasts}
use Rattle.run_judge.proofs.Shaped.{few_scripts}
use Rattle.run_judge.proofs.Spelling.{spelled}
use Rattle.run_judge.proofs.Telling.{begins_call, image_begins, events_so}

-- ---- faults

not_logged : (document : Document) (text : Text) (error : LogError) → IsRunnable document → IsLogged (certificate_replay document) text (certificate_given document) (Err error) → IsMakingFaultOf document (making_fault_of error)
not_logged document text errors.Memory runs given = tt
not_logged document text _ runs given = (runs.normal, rw (runs.shape, given) refl)

pub is_not_logged : (document : Document) (plan : Plan) (text : Text) (error : LogError) → IsPlanned document (Ok plan)
    → IsLogged (plan_logged plan) text (replayed (plan_logged plan) document.schedule) (Err error) → IsMakingFaultOf document (making_fault_of error)
is_not_logged document plan text error planned given =
    not_logged document text error planned.1 (subst (λ (p : Plan). IsLogged (plan_logged p) text (replayed (plan_logged p) document.schedule) (Err error)) planned.0 given)

-- ---- a certificate

limits : certificate_limit ≤ replay_limit
unfolding certificate_limit replay_limit
limits = omega arith

abbrev certificate_with : Document → LoggedRun → Certificate
certificate_with document run = record { document = document; events = run.events; replies = run.replies }

module _ (document : Document) (run : LoggedRun) (runs : IsRunnable document) (ready : IsReady (plan_for document)) (sound : IsSound (plan_for document).barred) (own : IsSetting (setting_of document))
    (accepts : RunsAreAccepted (target_of document) document.text (setting_of document)) (tells : TellsRun (certificate_replay document) document.text (certificate_given document) run) where
  complete : IsCompleteRunOf document tells.replaying.events tells.replaying.state
  complete = ((replays_reach (certificate_replay document)).each document.schedule tells.replaying (record { count = ready.count; calls = ready.calls }) ready.fuel tells.is).0

  lists : length run.replies ≡ length document.scripts
  lists =
      let state = states_are_sound (target_of document) document.text (setting_of document) tells.replaying.state (runnable (plan_for document).barred sound) own ready.fits
      (record { events = tells.replaying.events; runs = complete.run.runs }) in
      ap length tells.replies ∙ (length-map tells.replaying.state.entries _ ∙ state.callers)

  accepted : IsProper document.text → verdict_of (certificate_with document run) ≡ Accepted
  accepted proper =
      ap (λ (lists : List (List SourceReply)). verdict_on document.text document.scripts run.events lists) tells.replies
      ∙ (ap (λ (l : List SourceEvent). verdict_on document.text document.scripts l (replies_in tells.replaying.state)) tells.events
      ∙ accepts (fewer_are_proper document.text (length document.scripts) 8 (few_scripts document runs) proper) document.scripts (calls_of document) document.fuel tells.replaying.events tells.replaying.state ready.fuel refl (spelled document runs) complete)

  told : (bytes : List ℕ) → IsDocument bytes document → IsTold (certificate_with document run)
  told bytes is =
      let stands = λ (state : CoreState) (reached : Reachable (target_of document) (setting_of document) state).
      states_are_sound (target_of document) document.text (setting_of document) state (runnable (plan_for document).barred sound) own ready.fits reached in
      record {
        bytes = bytes;
        document = is;
        events =
            events_so (target_of document) document.text run.events sound.barred.erases tells.sized
            (ap (list_all (begins_call (target_of document))) tells.events
            ∙ image_begins (target_of document) document.text (setting_of document) (calls_of document) document.fuel tells.replaying.events tells.replaying.state refl ready.fuel ready.calls complete
            (stands (core_start (target_of document) (setting_of document)) (record { events = []; runs = refl }))
            (stands tells.replaying.state (record { events = tells.replaying.events; runs = complete.run.runs })));
        lists = lists;
        replies = tells.numbers;
      }

  pub certified : IsCertificateOf document (certificate_with document run)
  certified = record {
    runnable = runs;
    replaying = tells.replaying;
    given = tells.is;
    replayed = replay_lasts (certificate_replay document) replay_limit limits document.schedule tells.replaying tells.is;
    complete = complete;
    same = refl;
    events = tells.events;
    replies = tells.replies;
    lists = lists;
    told = told;
    accepted = accepted;
  }

pub is_certificate : (document : Document) (plan : Plan) (text : Text) (run : LoggedRun) (certificate : Certificate) → IsPlanned document (Ok plan) → IsReady plan → IsSound plan.barred → IsSetting plan.setting
    → RunsAreAccepted plan.barred.target plan.barred.source plan.setting → text ≡ document.text → IsLogged (plan_logged plan) text (replayed (plan_logged plan) document.schedule) (Ok run)
    → certificate ≡ record { document = document; events = run.events; replies = run.replies } → IsCertificateOf document certificate
is_certificate document plan text run certificate planned ready sound own accepts same tells is =
    subst (IsCertificateOf document) (sym is)
    (certified document run planned.1 (subst IsReady planned.0 ready) (subst (λ (p : Plan). IsSound p.barred) planned.0 sound) (subst (λ (p : Plan). IsSetting p.setting) planned.0 own)
    (subst (λ (p : Plan). RunsAreAccepted p.barred.target p.barred.source p.setting) planned.0 accepts)
    (subst (λ (x : Text). TellsRun (certificate_replay document) x (certificate_given document) run) same
    (subst (λ (p : Plan). TellsRun (plan_logged p) text (replayed (plan_logged p) document.schedule) run) planned.0 tells)))
