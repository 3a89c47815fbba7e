-- What a terminal does with a call or with bursts, and the rules of `end`, agree with the relations that are their laws.
use Rattle.{
  lapdm_end.specs.{Sides.CarriesOutStep, declared.sides.Side.Side},
  std.{
    proofs.Common.{Err, Ok, append-nil, append_assoc, get_or, take, ◌⊎◌, All, List, None, Option, Some, [], ap, arith, inl, inr},
    proofs.Common.{length-append, length, map, refl, subst, sym, ℕ, ℤ, ◌++◌, ◌+◌, ◌<◌, ◌∙◌, ◌∷◌, ◌≡◌},
    proofs.{Common.◌≤◌, lemmas.{Bool.{cases_lt, le-leb, lt-leb}, List.{Elements.{All-head, All-nil, All-push, All-tail}, take_more}}},
    specs.{List.All, Prelude.IfSome},
  },
  um_driver.{proofs.Outputs.{meaning_of_answer, step_of_answer}, specs.Rules.Runs},
  um_end.{
    specs.{
      Abstraction.role_of_terminal,
      Commands.CommandRepresents,
      EndLines.{Calls, Nothing as NoLine, TakesBurst, end_command_line, end_command_line_fault, EndCommandLineMeaning, EndCommandLineMeans},
      EndRuns.{EndCommandState, answer_to_end_command_line, burst_lines_of_frames, end_answer_text, end_command_rules},
      EndRuns.{initial_end_command_state, IsAnswerText, frames_in_answer},
      EndTurns.{AnswersByStep, AnswersLineByStep, AnswersLinesBySteps, IsTerminalStepOfLine},
      Terminals.{SideStep, answer_of_endpoint, answer_to_block, layer3_call_step, with_sapi_endpoint_replaced, IsCallOfRole},
      Terminals.{ReceivesBursts, SideState, answer_to_call, call_answer_unless, endpoint_step, endpoint_with_sapi, no_op_step},
      Terminals.{step_for_read_frame, terminal_step_of},
      TwoTerminals.{TwoTerminals, state_after_step},
      declared.command.EndCommand.EndCommand,
    },
    proofs.{
      AnswerSizes.IsBlock,
      EndLineLaws.{CanBeCarriedOut, end_command_line_meaning, end_command_line_means, end_command_line_refused, line-possible},
    },
  },
  um_formats.{specs.BurstTexts.bursts_text, proofs.BurstLines.soft},
  um_lines.specs.declared.fault.LineFault.LineFault,
  um_link.{
    proofs.{
      lapdm_frame.Lemmas.octets_canonical,
      lapdm_link.Lemmas.{AllSay, CallOctets, EndOctets, OutcomeOctets, SaysOctets, call-octets, frame-octets, AreOctets},
      lapdm_window.Lemmas.{IsValidEndpoint-initial, Keeps, keeps-call, keeps-frame, by_sapi},
      um_air.Lemmas.{ReadsFrame-frame_in_accepted, frame_in-only, octets_small, same_step, reads-well},
      um_block.Lemmas.{IsSentBlock-sent_block, accepted_count, received_block-only, some_received_block, accepted_octets},
    },
    specs.{
      lapdm_window.{
        Calls.{IsCallAllowedForEndpoint, Call, OpensWithoutInfo, Opens, refusal_of},
        Ends.{IsValidEndpoint, initial_endpoint, EndpointState, Outcome, Role},
        declared.{Refused.Refused, effects.Effects.Effects, Sapi.{TheVariants.{Three, Zero}, Sapi}},
        Tables.frame_outcome,
      },
      um_air.{Computed.frame_in_accepted, Air.{Accepts, Answer, Block, Event, Octets, ReadsFrame, Step}, Sessions.EventMessageIsOctets},
      lapdm_link.Events.{BothSides, other, side_with_role, with_side_replaced, Ask, BySide, OpenBare, Open, Request, as_event_refusal},
      lapdm_link.{Events.endpoint_call_of, Queues.without_oldest_item},
      um_block.{Computed.{received_block, sent_block}, Received.IsReceivedBlock, declared.received.Received.Received},
      Coded.AreCodedBlocks,
      lapdm_frame.{Content.{Frame, information}, Frames.{FrameFits, octets_of}, declared.Channel.TheVariants.Sdcch},
    },
  },
}
use Rattle.um_end.specs.TwoTerminals as T

-- ## SideSteps: The step of an endpoint determines the answer of its terminal.

-- the step that a terminal reports is the one that `terminal_step_of` defines
pub terminal_step-is : (role role' : Role) (received : Option Received) (d : SideStep) (sapi : Sapi) (effects : Effects) (new : Side)
    (step : Step) →
    step ≡ record { who = BySide role'; sapi = sapi; received = received; frames = effects.frames; notices = effects.notices } →
    role' ≡ role → CarriesOutStep Sdcch d sapi effects new → step ≡ terminal_step_of role received d
terminal_step-is role role' received d sapi effects new step is same h =
    is ∙ same_step _ (terminal_step_of role received d) (ap BySide same) h.sapi_matches refl h.frames h.notices

-- ---- four bursts of 148 soft values

abbrev pub Whole : List ℤ → Type 0
Whole burst = length burst ≡ 148

pub ReceivesBursts-only : (role : Role) (a : SideState) (bursts : List (List ℤ)) (b : SideState) (step : Step) →
    ReceivesBursts role a bursts b step → answer_to_block role a bursts ≡ (b, step)
ReceivesBursts-only role a bursts b step h =
    let report : h.report ≡ received_block bursts = received_block-only bursts h.report h.received in
    let frame = frame_in-only Sdcch h.report.accepted h.frame (accepted_count bursts h.report h.received) h.reads in
    rw (h.new_state_is, h.step_is_terminal_step, frame, report) refl

pub ReceivesBursts-received : (role : Role) (a : SideState) (bursts : List (List ℤ)) (r : Received) → IsReceivedBlock bursts r →
    ReceivesBursts role a bursts (answer_to_block role a bursts).0 (answer_to_block role a bursts).1
ReceivesBursts-received role a bursts r is =
    let received : IsReceivedBlock bursts (received_block bursts) = subst (IsReceivedBlock bursts) (received_block-only bursts r is) is in
    record {
      report = received_block bursts;
      frame = frame_in_accepted Sdcch (received_block bursts).accepted;
      received = received;
      reads = ReadsFrame-frame_in_accepted Sdcch (received_block bursts).accepted (accepted_count bursts (received_block bursts) received);
      new_state_is = refl;
      step_is_terminal_step = refl;
    }

pub ReceivesBursts-answer_to_block : (role : Role) (a : SideState) (bursts : List (List ℤ)) → length bursts ≡ 4 →
    All Whole bursts →
    ReceivesBursts role a bursts (answer_to_block role a bursts).0 (answer_to_block role a bursts).1
ReceivesBursts-answer_to_block role a bursts four each =
    let (r, is) = some_received_block bursts four each in ReceivesBursts-received role a bursts r is

-- ## Answering: The command answers a line as its rules compute.

-- the text with the burst lines of one more frame
pub burst_lines-next : (tsc : ℕ) (os : List Octets) (i : ℕ) (old mid new : List ℕ) (block : Block) → i < length os →
    mid ≡ old ++ burst_lines_of_frames tsc (take i os) → block ≡ sent_block (get_or os i []) tsc →
    new ≡ mid ++ bursts_text block →
    new ≡ old ++ burst_lines_of_frames tsc (take (i + 1) os)
burst_lines-next tsc os i old mid new block within before coded is =
    rw (is, before, coded, take_more os i [] within)
    (append_assoc old _ _ ∙ ap (λ t. old ++ t) (go (take i os) (get_or os i [])))
  where
    go : (front : List Octets) (o : Octets) → burst_lines_of_frames tsc front ++ bursts_text (sent_block o tsc)
        ≡ burst_lines_of_frames tsc (front ++ o ∷ [])
    go [] o = sym (append-nil (bursts_text (sent_block o tsc)))
    go (first ∷ front) o = append_assoc (bursts_text (sent_block first tsc)) (burst_lines_of_frames tsc front) _
        ∙ ap (λ t. bursts_text (sent_block first tsc) ++ t) (go front o)

pub blocks-next : (os : List Octets) (i : ℕ) → i < length os → All IsBlock (take i os) → IsBlock (get_or os i []) →
    All IsBlock (take (i + 1) os)
blocks-next os i within before count = rw (take_more os i [] within) (All-push IsBlock (take i os) (get_or os i []) before count)

-- what the parser says of a line with the command's side and number of held bursts holds for the state that the command represents
pub line_answered : (c : EndCommand) (s : EndCommandState) (count : ℕ) (line text : List ℕ) (meaning : EndCommandLineMeaning)
    (after : EndCommandState) → CommandRepresents c s → count ≡ length c.held.held →
    EndCommandLineMeans (role_of_terminal c.terminal) count line meaning → (text, after) ≡ answer_to_end_command_line s meaning →
    end_command_rules.step s line ≡ Ok (text, after)
line_answered c s count line text meaning after st held means is =
    rw (end_command_line_meaning s.role (length s.held_bursts) line meaning (rw (st.role, st.held_bursts, ← held) means), is) refl

pub line_refused : (c : EndCommand) (s : EndCommandState) (count : ℕ) (line : List ℕ) (fault : LineFault) →
    CommandRepresents c s → count ≡ length c.held.held →
    Some fault ≡ end_command_line_fault (role_of_terminal c.terminal) count line →
    end_command_rules.step s line ≡ Err fault
line_refused c s count line fault st held bad =
    rw (end_command_line_refused s.role (length s.held_bursts) line fault (rw (st.role, st.held_bursts, ← held) (sym bad))) refl

-- ## EndRuns: In a run of `end` each line that changes an endpoint is a step of two terminals, and the frames sent are coded as blocks:
-- endpoints only send frames that fit in a block and consist of octets.

-- the endpoint is valid, has this role and SAPI, is on SDCCH, and its SABM information and its messages consist of octets
record IsFit (role : Role) (sapi : Sapi) (e : EndpointState) : Type 0 where
  pub valid : IsValidEndpoint e
  pub role_matches : e.role ≡ role
  pub sapi_matches : e.sapi ≡ sapi
  pub channel : e.channel ≡ Sdcch
  pub octets : EndOctets e

record AreFit (role : Role) (a : SideState) : Type 0 where
  pub link0 : IsFit role Zero a.link0
  pub link3 : IsFit role Three a.link3

AreFit-endpoint : {role : Role} (sapi : Sapi) (a : SideState) → AreFit role a → IsFit role sapi (endpoint_with_sapi sapi a)
AreFit-endpoint sapi a h = grind arith

AreFit-with : {role : Role} (sapi : Sapi) (e : EndpointState) (a : SideState) → AreFit role a → IsFit role sapi e →
    AreFit role (with_sapi_endpoint_replaced sapi e a)
AreFit-with Zero e a h fit = record { link0 = fit; link3 = h.link3 }
AreFit-with Three e a h fit = record { link0 = h.link0; link3 = fit }

-- after the step `d`, both endpoints satisfy `IsFit`, and the frames sent fit in a block and consist of octets
record IsFitSideStep (role : Role) (d : SideStep) : Type 0 where
  pub new_state_fits : AreFit role d.new_state
  pub frames : All (FrameFits Sdcch) d.frames
  pub said : AllSay d.frames

IsFitSideStep-outcome : {role : Role} (sapi : Sapi) (o : Outcome) (a : SideState) → AreFit role a →
    Keeps (endpoint_with_sapi sapi a) o → OutcomeOctets o →
    IsFitSideStep role (endpoint_step sapi o a)
IsFitSideStep-outcome sapi o a h keeps octets =
    let fit = AreFit-endpoint sapi a h in
    record {
      new_state_fits = AreFit-with sapi o.new_state a h (record {
        valid = keeps.valid;
        role_matches = keeps.role ∙ fit.role_matches;
        sapi_matches = keeps.sapi ∙ fit.sapi_matches;
        channel = keeps.channel ∙ fit.channel;
        octets = octets.end_octets;
      });
      frames = rw fit.channel at keeps.frames;
      said = octets.frames;
    }

fit_call : {role : Role} (sapi : Sapi) (call : Call) (a : SideState) → CallOctets call →
    IsCallAllowedForEndpoint (endpoint_with_sapi sapi a) call → AreFit role a →
    refusal_of call (endpoint_with_sapi sapi a) ≡ None → IsFitSideStep role (layer3_call_step sapi call a)
fit_call sapi call a octets has h ok =
    let fit = AreFit-endpoint sapi a h in
    IsFitSideStep-outcome sapi _ a h (keeps-call call _ fit.valid has ok) (call-octets call _ octets ok fit.valid.window fit.octets)

fit_frame : {role : Role} (sapi : Sapi) (f : Frame) (a : SideState) → FrameFits Sdcch f → AreOctets (information f.content) →
    AreFit role a → IsFitSideStep role (endpoint_step sapi (frame_outcome f (endpoint_with_sapi sapi a)) a)
fit_frame sapi f a fits octets h =
    let fit = AreFit-endpoint sapi a h in
    IsFitSideStep-outcome sapi _ a h (keeps-frame f _ fit.valid (rw fit.channel fits)) (frame-octets f _ octets fit.valid.window fit.octets)

fit_nothing : {role : Role} (a : SideState) → AreFit role a → IsFitSideStep role (no_op_step a)
fit_nothing a h = record { new_state_fits = h; frames = All-nil (FrameFits Sdcch); said = All-nil SaysOctets }

fit_read : {role : Role} (a : SideState) (accepted : Option Octets) (read : Option Frame) → IfSome accepted AreOctets →
    ReadsFrame Sdcch accepted read → AreFit role a → IsFitSideStep role (step_for_read_frame read a)
fit_read a accepted None octets reads h = fit_nothing a h
fit_read {role} a accepted (Some f) octets reads h =
    let well = reads-well Sdcch accepted f octets reads in
    by_sapi f a (IsFitSideStep role) (λ e. fit_frame Zero f a well.0 well.1 h) (λ e. fit_frame Three f a well.0 well.1 h)
    (λ e g. fit_nothing a h)

-- frames that fit in a block and consist of octets have coded blocks
coded : (tsc : ℕ) (fs : List Frame) → tsc ≤ 7 → All (FrameFits Sdcch) fs → AllSay fs →
    (let os = map (octets_of Sdcch) fs in AreCodedBlocks tsc os (map (λ o. sent_block o tsc) os))
coded tsc [] known h said = tt
coded tsc (f ∷ fs) known h said =
    let fits : FrameFits Sdcch f = All-head (FrameFits Sdcch) f fs h in
    let small = octets_small Sdcch f fits (All-head SaysOctets f fs said) in (
      IsSentBlock-sent_block (octets_of Sdcch f) tsc (octets_canonical Sdcch f fits).frame.count small known,
      coded tsc fs known (All-tail (FrameFits Sdcch) f fs h) (All-tail SaysOctets f fs said),
    )

-- an answer leaves endpoints that satisfy `AreFit`, and its text has the burst lines of coded blocks
record IsFitAnswer (role : Role) (tsc : ℕ) (next : SideState × Answer) : Type 0 where
  pub links : AreFit role next.0
  pub text : IsAnswerText tsc next.1 (end_answer_text tsc next.1)

IsFitAnswer-step : (role : Role) (tsc : ℕ) (received : Option Received) (d : SideStep) → tsc ≤ 7 → IsFitSideStep role d →
    IsFitAnswer role tsc (d.new_state, Accepts (terminal_step_of role received d))
IsFitAnswer-step role tsc received d known h = record {
  links = h.new_state_fits;
  text = record { blocks = _; coded = coded tsc d.frames known h.frames h.said; text_is = refl };
}

-- ---- the answer to a call

module _ (role : Role) (tsc : ℕ) (known : tsc ≤ 7) (a : SideState) (h : AreFit role a) where
  fit_answer : (sapi : Sapi) (call : Call) (refused : Option Refused) → refusal_of call (endpoint_with_sapi sapi a) ≡ refused →
      CallOctets call → IsCallAllowedForEndpoint (endpoint_with_sapi sapi a) call →
      IsFitAnswer role tsc (call_answer_unless (as_event_refusal refused) role a (layer3_call_step sapi call a))
  fit_answer sapi call (Some why) is octets has = record {
    links = h;
    text = record { blocks = []; coded = tt; text_is = refl };
  }
  fit_answer sapi call None is octets has = IsFitAnswer-step role tsc None _ known (fit_call sapi call a octets has h is)

  -- every endpoint supports the call of every request; if the message in a request consists of octets, so does that in its call
  fit_request : (other : Role) (sapi : Sapi) (request : Request) → EventMessageIsOctets (Ask other sapi request) →
      IsFitAnswer role tsc (answer_of_endpoint role a sapi (endpoint_call_of request))
  fit_request other sapi request octets = fit_answer sapi (endpoint_call_of request) _ refl (grind arith) (grind arith)

  fit_event : (event : Event) → IsCallOfRole role event × EventMessageIsOctets event →
      IsFitAnswer role tsc (answer_to_call role a event)
  fit_event (Open info) own =
      fit_answer Zero (Opens info) _ refl own.1 (h.link0.sapi_matches, h.link0.role_matches ∙ own.0)
  fit_event (OpenBare other) own = fit_answer Three OpensWithoutInfo _ refl tt h.link3.sapi_matches
  fit_event (Ask other sapi request) own = fit_request other sapi request own.1
  fit_event event own = absurd own.0

  -- ---- the answer to four bursts

  fit_bursts : (bursts : List (List ℤ)) (b : SideState) (step : Step) → ReceivesBursts role a bursts b step →
      IsFitAnswer role tsc (b, Accepts step)
  fit_bursts bursts b step k =
      rw (k.new_state_is, k.step_is_terminal_step) (IsFitAnswer-step role tsc (Some k.report) _ known
      (fit_read a k.report.accepted k.frame (accepted_octets bursts k.report k.received) k.reads h))

-- ---- the lines of a run

-- the invariant of a run of `end`: the training sequence code is valid, the endpoints satisfy `AreFit`, and at most three bursts of 148
-- soft values are held
record Invariant (s : EndCommandState) : Type 0 where
  pub tsc : s.tsc ≤ 7
  pub links : AreFit s.role s.links
  pub at_most_3 : length s.held_bursts ≤ 3
  pub each : All Whole s.held_bursts

IsFit-initial : (role : Role) (sapi : Sapi) → IsFit role sapi (initial_endpoint role sapi Sdcch)
IsFit-initial role sapi = record {
  valid = IsValidEndpoint-initial role sapi Sdcch;
  role_matches = refl;
  sapi_matches = refl;
  channel = refl;
  octets = record { sabm_info = All-nil (λ octet. octet < 256); messages = All-nil AreOctets };
}

Invariant-start : (role : Role) (tsc : ℕ) → tsc ≤ 7 → Invariant (initial_end_command_state role tsc)
Invariant-start role tsc known = record {
  tsc = known;
  links = record { link0 = IsFit-initial role Zero; link3 = IsFit-initial role Three };
  at_most_3 = omega arith;
  each = All-nil Whole;
}

pub links_after : (role : Role) (links : SideState) (es : BothSides) → side_with_role role (with_side_replaced role links es) ≡ links
links_after role links es = grind arith

-- the answer to a line with this meaning keeps the invariant, the role and the training sequence; it is a step of two terminals, or changes
-- no endpoint
record IsSound (s : EndCommandState) (meaning : EndCommandLineMeaning) (next : List ℕ × EndCommandState) : Type 0 where
  pub keeps : Invariant next.1
  pub same_role : next.1.role ≡ s.role
  pub same_tsc : next.1.tsc ≡ s.tsc
  pub by_step : AnswersByStep s meaning next.0 next.1

module _ (s : EndCommandState) (k : Invariant s) where
  IsSound-block : (soft : List ℤ) → (let bursts = s.held_bursts ++ soft ∷ [] in let next = answer_to_block s.role s.links bursts in
      length s.held_bursts ≡ 3 → length bursts ≡ 4 → All Whole bursts →
      IsSound s (TakesBurst soft) (end_answer_text s.tsc (Accepts next.1), record s { links = next.0; held_bursts = [] }))
  IsSound-block soft three four each =
      let bursts = s.held_bursts ++ soft ∷ [] in
      let heard = ReceivesBursts-answer_to_block s.role s.links bursts four each in
      let fit = fit_bursts s.role s.tsc k.tsc s.links k.links bursts _ _ heard in
      record {
        keeps = record { tsc = k.tsc; links = fit.links; at_most_3 = omega arith; each = All-nil Whole };
        same_role = refl;
        same_tsc = refl;
        by_step = inr (
          (three, refl),
          λ a same. record {
            turn = T.TakesBurst s.role bursts (answer_to_block s.role s.links bursts).1;
            next = state_after_step s.role (answer_to_block s.role s.links bursts).0 (answer_to_block s.role s.links bursts).1.frames
                (without_oldest_item (other s.role) a.queues) a;
            is_step = (_, rw same heard, refl);
            of_line = (refl, refl, fit.text);
            new_links = links_after s.role _ a.sides;
          },
        );
      }

  IsSound-answer : (meaning : EndCommandLineMeaning) → CanBeCarriedOut s.role meaning →
      IsSound s meaning (answer_to_end_command_line s meaning)
  IsSound-answer NoLine can = record { keeps = k; same_role = refl; same_tsc = refl; by_step = inl (refl, refl, refl) }
  IsSound-answer (TakesBurst soft) can =
      let bursts = s.held_bursts ++ soft ∷ [] in
      let more : length bursts ≡ length s.held_bursts + 1 = length-append s.held_bursts (soft ∷ []) in
      let each : All Whole bursts = All-push Whole _ soft k.each can.0 in
      elim (cases_lt (length bursts) 4) [
        | inl few ↦ rw (lt-leb 4 (length bursts) few) (record {
          keeps = record { tsc = k.tsc; links = k.links; at_most_3 = omega (arith, few); each = each };
          same_role = refl;
          same_tsc = refl;
          by_step = inl ((omega (arith, more, few), refl), refl, refl);
        })
        | inr many ↦ rw (le-leb 4 (length bursts) many)
            (IsSound-block soft (omega (arith, more, many, k.at_most_3)) (omega (arith, more, many, k.at_most_3)) each)
      ]
  IsSound-answer (Calls event) can =
      let fit = fit_event s.role s.tsc k.tsc s.links k.links event can in
      record {
        keeps = record { tsc = k.tsc; links = fit.links; at_most_3 = k.at_most_3; each = k.each };
        same_role = refl;
        same_tsc = refl;
        by_step = inr (
          refl,
          λ a same. record {
            turn = T.Calls s.role event (answer_to_call s.role s.links event).1;
            next = state_after_step s.role (answer_to_call s.role s.links event).0
                (frames_in_answer (answer_to_call s.role s.links event).1) a.queues a;
            is_step = (can.0, rw same refl, rw same refl);
            of_line = (refl, refl, fit.text);
            new_links = links_after s.role _ a.sides;
          },
        );
      }

  line_sound : (line text : List ℕ) (after : EndCommandState) → end_command_rules.step s line ≡ Ok (text, after) →
      AnswersLineByStep s line text after × Invariant after
  line_sound line text after step =
      let (meaning, parsed, is) = meaning_of_answer (answer_to_end_command_line s) (end_command_line s.role (length s.held_bursts) line)
      (text, after) step in
      let means = end_command_line_means s.role (length s.held_bursts) line meaning parsed in
      let sound = subst (IsSound s meaning) (sym is) (IsSound-answer meaning (line-possible s.role _ line meaning means)) in (
        record {
          meaning = meaning;
          means = means;
          same_role = sound.same_role;
          same_tsc = sound.same_tsc;
          by_step = sound.by_step;
        },
        sound.keeps,
      )

run_sound : (s : EndCommandState) (lines texts : List (List ℕ)) (after : EndCommandState) → Invariant s →
    Runs end_command_rules s lines texts after → AnswersLinesBySteps s lines texts after × Invariant after
run_sound s [] [] after k runs = (runs, rw runs k)
run_sound s (line ∷ lines) (text ∷ texts) after k (next, step, rest) =
    let (by_step, kept) = line_sound s k line text next (step_of_answer end_command_rules s line (text, next) step) in
    let later = run_sound next lines texts after kept rest in
    ((next, by_step, later.0), later.1)
run_sound s _ _ after k none = absurd none

module _ (role : Role) (tsc : ℕ) (lines texts : List (List ℕ)) (after : EndCommandState) (known : tsc ≤ 7)
    (runs : Runs end_command_rules (initial_end_command_state role tsc) lines texts after) where
  pub run_by_steps : AnswersLinesBySteps (initial_end_command_state role tsc) lines texts after
  run_by_steps = (run_sound (initial_end_command_state role tsc) lines texts after (Invariant-start role tsc known) runs).0

  -- at most three bursts of 148 soft values are held
  pub held_are_bursts : (length after.held_bursts ≤ 3) × All Whole after.held_bursts
  held_are_bursts =
      let kept = (run_sound (initial_end_command_state role tsc) lines texts after (Invariant-start role tsc known) runs).1 in
      (kept.at_most_3, kept.each)
