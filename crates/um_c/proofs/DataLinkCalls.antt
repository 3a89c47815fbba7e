-- What each data link call returns and writes.
use Rattle.std.proofs.Common.{◌≡◌, ◌≢◌, ◌≤◌, ◌∙◌, refl, sym, ap, subst, arith, ℕ, false, List, []}
use Rattle.std.proofs.Common.{◌∷◌, ◌++◌, ◌-◌, map, length}
use Rattle.std.proofs.Common.{replicate, Option, Some, None}
use Rattle.std.specs.Prelude.{◌==◌, ◌<◌, nat_lt, true}
use Rattle.std.proofs.lemmas.Bool.Decides.{nat_tests}
use Rattle.lapdm_frame.specs.Frames.{octets_of}
use Rattle.lapdm_frame.specs.declared.{Channel.{Channel}}
use Rattle.um_air.specs.segmenting.Segments.{Message}
use Rattle.um_air.specs.lapdm_window.declared.Sapi.{Sapi}
use Rattle.um_air.specs.lapdm_window.declared.Notice.{Notice}
use Rattle.lapdm_datalink.specs.declared.data_links.DataLink.{DataLink}
use Rattle.um_air.specs.lapdm_window.declared.Refused.{Refused}
use Rattle.um_air.specs.lapdm_window.Calls.{SendsUi, refusal_of}
use Rattle.um_air.specs.lapdm_window.Ends.{EndpointState}
use Rattle.lapdm_datalink.specs.Links.{LinkState, unacked_messages}
use Rattle.lapdm_datalink.specs.DataLinks.{DataLinkState, link_with_sapi, with_link, unit_frame}
use Rattle.lapdm_datalink.specs.Parts.{LinkValues, DataLinkValues, RepresentDataLink, RepresentSomeDataLink, data_link_values_of}
use Rattle.lapdm_datalink.specs.Sides as D
use Rattle.lapdm_datalink.proofs.Lemmas.{one_data_link_values}
use Rattle.um_c.specs.declared.datalinks.CDataLink.{CDataLink}
use Rattle.um_c.specs.States.{sapi_of, sapi_number}
use Rattle.um_c.specs.EndCalls.{call_refusal_number}
use Rattle.um_c.specs.Effects.{c_notice, blank_notice}
use Rattle.um_c.specs.DataLinkCalls.{answer_from, link_values_from, data_link_values_from, RepresentsDataLink, RepresentsSomeDataLink}
use Rattle.um_c.specs.DataLinkCalls.{IsWrittenFor, owed_number, answer_octets, c_timed_end, c_data_link, c_report, reports_of}
use Rattle.um_c.specs.DataLinkCalls.{DataLinkAnswers, DataLinkHasUnacked, DataLinkChangesLink, DataLinkChanges, DataLinkReceivesBlock}
use Rattle.um_c.specs.DataLinkCalls.{DataLinkFillsSlot}
use Rattle.um_c.specs.DataLinkCalls.{DataLinkEncodesUnit, with_layer1, IsRead}
use Rattle.um_c.specs.declared.datalinks.CReport.{CReport}
use Rattle.std.specs.Prelude.{slice_get}
use Rattle.std.proofs.lemmas.Option.{slice_get-map}
use Rattle.std.specs.Option.{option_map}
use Rattle.um_air.specs.segmenting.declared.buffers.MessageBuffer.{MessageBuffer}
use Rattle.um_air.specs.segmenting.Buffers.{octets_in_buffer, message_buffer}
use Rattle.um_c.proofs.Calls.{end-c_struct, is_nonzero-bit_of_bool}

-- ## Structs: Reading back the struct of a data link gives the values that were written to it.

answer-c_struct : (a : Option (List ℕ)) → answer_from (owed_number a) (answer_octets a) ≡ a
answer-c_struct None = refl
answer-c_struct (Some block) = refl

pub link-c_struct : (x : LinkValues) → length x.endpoint.window.held ≤ 8 → link_values_from (c_timed_end x) ≡ Some x
link-c_struct x few = rw (
  end-c_struct x.endpoint few,
  answer-c_struct x.answer,
  is_nonzero-bit_of_bool x.is_sent,
  is_nonzero-bit_of_bool x.heard,
) refl

data_link-c_struct : (m : DataLink) → data_link_values_from (c_data_link (data_link_values_of m)) ≡ Some (data_link_values_of m)
data_link-c_struct m =
    let x = data_link_values_of m in
    rw (
      link-c_struct x.link0 m.link0.endpoint.window.at_most_8,
      link-c_struct x.link3 m.link3.endpoint.window.at_most_8,
      is_nonzero-bit_of_bool x.heard_sapi0,
      is_nonzero-bit_of_bool x.is_main_established,
    ) refl

-- a struct that was written from a Rust data link represents what that represents
pub written : (m : DataLink) (s : DataLinkState) (after : CDataLink) → D.Represents m s →
    after ≡ c_data_link (data_link_values_of m) →
    IsWrittenFor s after
written m s after h is = record {
  represents = record {
    values = data_link_values_of m;
    decoded = ap data_link_values_from is ∙ data_link-c_struct m;
    represents = record {
      valid = h.valid;
      link0 = record { link = m.link0; values_match = refl; represents = h.link0 };
      link3 = record { link = m.link3; values_match = refl; represents = h.link3 };
      heard_sapi0 = h.heard_sapi0;
      is_main_established = h.is_main_established;
    };
  };
  canonical = is;
}

-- structs that were written for the same data link are equal
pub one_struct : (a b : CDataLink) (s : DataLinkState) → IsWrittenFor s a → IsWrittenFor s b → a ≡ b
one_struct a b s h g =
    h.canonical ∙ ap c_data_link (one_data_link_values _ _ s h.represents.represents g.represents.represents) ∙ sym g.canonical

-- the values in the struct represent what the struct represents
pub decoded : (c : CDataLink) (x : DataLinkValues) (s : DataLinkState) → data_link_values_from c ≡ Some x → RepresentsDataLink c s →
    RepresentDataLink x s
decoded c x s is h = subst (λ (y : DataLinkValues). RepresentDataLink y s) (same (sym h.decoded ∙ is)) h.represents
  where
    same : {a b : DataLinkValues} → Some a ≡ Some b → a ≡ b
    same e = cc

-- the struct represents a data link exactly if its values do
pub some_data_link : (c : CDataLink) (x : DataLinkValues) → data_link_values_from c ≡ Some x →
    (RepresentSomeDataLink x → RepresentsSomeDataLink c) × (RepresentsSomeDataLink c → RepresentSomeDataLink x)
some_data_link c x is = (
  λ h. (h.0, record { values = x; decoded = is; represents = h.1 }),
  λ h. (h.0, decoded c x h.0 is h.1),
)

-- ## Reports

pub report_is : (sapi : Sapi) (ns : List Notice) (r : CReport) → length ns ≤ 3 →
    r.notices ≡ map c_notice ns ++ replicate (3 - length ns) blank_notice →
    r.sapis ≡ replicate (length ns) (sapi_number sapi) ++ replicate (3 - length ns) 0 → r.notice_count ≡ length ns →
    r ≡ c_report (reports_of sapi ns)
report_is sapi [] r h notices sapis count = λ i. record { notices = notices i; sapis = sapis i; notice_count = count i }
report_is sapi (a ∷ []) r h notices sapis count = λ i. record { notices = notices i; sapis = sapis i; notice_count = count i }
report_is sapi (a ∷ b ∷ []) r h notices sapis count = λ i. record { notices = notices i; sapis = sapis i; notice_count = count i }
report_is sapi (a ∷ b ∷ c ∷ []) r h notices sapis count =
    λ i. record { notices = notices i; sapis = sapis i; notice_count = count i }
report_is sapi (a ∷ b ∷ c ∷ d ∷ ns) r h notices sapis count = absurd (omega arith)

-- ## Calls: A call reads the caller's struct into a Rust data link and calls this. Its contract determines what the C call returns and
-- writes, because both represent the same data link.

-- a struct that represents no data link: the call returns 7 and writes nothing
module _ (c : CDataLink) (no : RepresentsSomeDataLink c → ⊥) where
  pub answers_by_7 : (sapi : ℕ) (Supports : EndpointState → Type 0) (refusal : LinkState → Option Refused)
      (change : LinkState → LinkState) → DataLinkAnswers sapi Supports refusal change 7 c c
  answers_by_7 sapi Supports refusal change = record {
    carried_out = λ s h p e a none. absurd (no (s, h));
    refused = λ s h p e a reason refuses. absurd (no (s, h));
    unsupported_call = λ s h p e never. absurd (no (s, h));
    no_such_sapi = λ some none. absurd (no some);
    invalid_struct = λ none. refl;
    unchanged = λ other. refl;
  }

  pub changes_link_by_7 : (sapi : ℕ) (change : LinkState → LinkState) → DataLinkChangesLink sapi change 7 c c
  changes_link_by_7 sapi change = record {
    carried_out = λ s h p e. absurd (no (s, h));
    no_such_sapi = λ some none. absurd (no some);
    invalid_struct = λ none. refl;
    unchanged = λ other. refl;
  }

  pub changes_by_7 : (change : DataLinkState → DataLinkState) → DataLinkChanges change 7 c c
  changes_by_7 change = record {
    carried_out = λ s h. absurd (no (s, h));
    invalid_struct = λ none. refl;
    unchanged = λ other. refl;
  }

  pub receives_by_7 : (octets : List ℕ) (r : CReport) → DataLinkReceivesBlock octets 7 c c r r
  receives_by_7 octets r = record {
    carried_out = λ s h f only. absurd (no (s, h));
    reported = λ s h f only. absurd (no (s, h));
    invalid_frame = λ s h reason refused. absurd (no (s, h));
    invalid_struct = λ none. refl;
    unchanged = λ other. (refl, refl);
  }

  pub fills_slot_by_7 : (layer1 block : List ℕ) (r : CReport) → DataLinkFillsSlot layer1 7 c c block block r r
  fills_slot_by_7 layer1 block r = record {
    written = λ s h. absurd (no (s, h));
    answer_is = λ s h. absurd (no (s, h));
    block_is = λ s h. absurd (no (s, h));
    reported = λ s h. absurd (no (s, h));
    invalid_struct = λ none. refl;
    unchanged = λ seven. (refl, refl, refl);
  }

-- no link has this SAPI
pub answers_no_sapi : {c : CDataLink} {m : DataLink} (sapi : ℕ) (Supports : EndpointState → Type 0)
    (refusal : LinkState → Option Refused) (change : LinkState → LinkState) → None ≡ sapi_of sapi → IsRead c m →
    DataLinkAnswers sapi Supports refusal change 8 c c
answers_no_sapi sapi Supports refusal change none read = record {
  carried_out = λ s h p e a accepted. absurd (cc (none, e));
  refused = λ s h p e a reason refuses. absurd (cc (none, e));
  unsupported_call = λ s h p e never. refl;
  no_such_sapi = λ some e. refl;
  invalid_struct = λ no. absurd (no read.some);
  unchanged = λ other. refl;
}

same_sapi : (sapi : ℕ) (p q : Sapi) → Some p ≡ sapi_of sapi → Some q ≡ sapi_of sapi → q ≡ p
same_sapi sapi p q h g = some_same (g ∙ sym h)
  where
    some_same : {a b : Sapi} → Some a ≡ Some b → a ≡ b
    some_same e = cc

module _ {c : CDataLink} {m : DataLink} (sapi : ℕ) (p : Sapi) (is : Some p ≡ sapi_of sapi) (read : IsRead c m) where
  known : None ≡ sapi_of sapi → ⊥
  known none = absurd (cc (is, none))

  module _ (Supports : EndpointState → Type 0) (refusal : LinkState → Option Refused) (change : LinkState → LinkState) where
    pub answers_err : (reason : Refused) →
        ((s : DataLinkState) → D.Represents m s → Some reason ≡ refusal (link_with_sapi p s)) →
        ((s : DataLinkState) → D.Represents m s → Supports (link_with_sapi p s).endpoint) →
        DataLinkAnswers sapi Supports refusal change (call_refusal_number reason) c c
    answers_err reason refused allowed = record {
      carried_out = λ s h q e a none. (let f = refused s (read.represents s h) in
          absurd (some_none reason (f ∙ (rw (same_sapi sapi p q is e) at none))));
      refused = λ s h q e a other refuses. (let f = refused s (read.represents s h) in
          ap call_refusal_number (one_reason reason other (f ∙ (rw (same_sapi sapi p q is e) at refuses))));
      unsupported_call = λ s h q e never. absurd (never (rw (same_sapi sapi p q is e) (allowed s (read.represents s h))));
      no_such_sapi = λ some none. absurd (known none);
      invalid_struct = λ none. absurd (none read.some);
      unchanged = λ other. refl;
    }
      where
        some_none : (r : Refused) → Some r ≡ None → ⊥
        some_none r e = absurd cc

        one_reason : (r q : Refused) → Some r ≡ Some q → r ≡ q
        one_reason r q e = cc

    pub answers_ok : (n : DataLink) (after : CDataLink) → after ≡ c_data_link (data_link_values_of n) →
        ((s : DataLinkState) → D.Represents m s → None ≡ refusal (link_with_sapi p s)) →
        ((s : DataLinkState) → D.Represents m s → Supports (link_with_sapi p s).endpoint) →
        ((s : DataLinkState) → D.Represents m s → D.Represents n (with_link p (change (link_with_sapi p s)) s)) →
        DataLinkAnswers sapi Supports refusal change 0 c after
    answers_ok n after wrote accepted allowed does = record {
      carried_out = λ s h q e a none. record {
        answer_is_0 = refl;
        written = rw (same_sapi sapi p q is e) (written n _ after (does s (read.represents s h)) wrote);
      };
      refused = λ s h q e a other refuses. (let f = accepted s (read.represents s h) in
          absurd (none_some other (f ∙ (rw (same_sapi sapi p q is e) at refuses))));
      unsupported_call = λ s h q e never. absurd (never (rw (same_sapi sapi p q is e) (allowed s (read.represents s h))));
      no_such_sapi = λ some none. absurd (known none);
      invalid_struct = λ none. absurd (none read.some);
      unchanged = λ other. absurd (other refl);
    }
      where
        none_some : (r : Refused) → None ≡ Some r → ⊥
        none_some r e = absurd cc

    pub answers_unsupported : ((s : DataLinkState) → D.Represents m s →
        Supports (link_with_sapi p s).endpoint → ⊥) →
        DataLinkAnswers sapi Supports refusal change 8 c c
    answers_unsupported never = record {
      carried_out = λ s h q e a none. absurd (never s (read.represents s h) (rw (sym (same_sapi sapi p q is e)) a));
      refused = λ s h q e a other refuses. absurd (never s (read.represents s h) (rw (sym (same_sapi sapi p q is e)) a));
      unsupported_call = λ s h q e n. refl;
      no_such_sapi = λ some none. refl;
      invalid_struct = λ none. absurd (none read.some);
      unchanged = λ other. refl;
    }

  pub changes_link : (n : DataLink) (after : CDataLink) (change : LinkState → LinkState) →
      after ≡ c_data_link (data_link_values_of n) →
      ((s : DataLinkState) → D.Represents m s → D.Represents n (with_link p (change (link_with_sapi p s)) s)) →
      DataLinkChangesLink sapi change 0 c after
  changes_link n after change wrote does = record {
    carried_out = λ s h q e. record {
      answer_is_0 = refl;
      written = rw (same_sapi sapi p q is e) (written n _ after (does s (read.represents s h)) wrote);
    };
    no_such_sapi = λ some none. absurd (known none);
    invalid_struct = λ none. absurd (none read.some);
    unchanged = λ other. absurd (other refl);
  }

module _ {c : CDataLink} {m : DataLink} (read : IsRead c m) where
  pub changes : (n : DataLink) (after : CDataLink) (change : DataLinkState → DataLinkState) →
      after ≡ c_data_link (data_link_values_of n) →
      ((s : DataLinkState) → D.Represents m s → D.Represents n (change s)) → DataLinkChanges change 0 c after
  changes n after change wrote does = record {
    carried_out = λ s h. record { answer_is_0 = refl; written = written n _ after (does s (read.represents s h)) wrote };
    invalid_struct = λ none. absurd (none read.some);
    unchanged = λ other. absurd (other refl);
  }

module _ {c : CDataLink} {m : DataLink} (sapi : ℕ) (p : Sapi) (is : Some p ≡ sapi_of sapi) (read : IsRead c m) where
  module _ (message : Message) (layer1 old : List ℕ) where
    pub unit_refused : (reason : Refused) →
        ((s : DataLinkState) → D.Represents m s → Some reason ≡ refusal_of (SendsUi message) (link_with_sapi p s).endpoint) →
        DataLinkEncodesUnit sapi message layer1 (call_refusal_number reason) c old old
    unit_refused reason refusal = record {
      carried_out = λ s h q e none. (let f = refusal s (read.represents s h) in
          absurd (some_none reason (f ∙ (rw (same_sapi sapi p q is e) at none))));
      refused = λ s h q e other refuses. (let f = refusal s (read.represents s h) in
          ap call_refusal_number (one_reason reason other (f ∙ (rw (same_sapi sapi p q is e) at refuses))));
      no_such_sapi = λ some none. absurd (known sapi p is read none);
      invalid_struct = λ none. absurd (none read.some);
      unchanged = λ other. refl;
    }
      where
        some_none : (r : Refused) → Some r ≡ None → ⊥
        some_none r e = absurd cc

        one_reason : (r q : Refused) → Some r ≡ Some q → r ≡ q
        one_reason r q e = cc

    pub unit_written : (channel : Channel) (plain block : List ℕ) → channel ≡ D.channel_of m →
        block ≡ with_layer1 channel layer1 plain →
        ((s : DataLinkState) → D.Represents m s → None ≡ refusal_of (SendsUi message) (link_with_sapi p s).endpoint) →
        ((s : DataLinkState) → D.Represents m s → plain ≡ octets_of (D.channel_of m) (unit_frame p message s)) →
        DataLinkEncodesUnit sapi message layer1 0 c old block
    unit_written channel plain block on block_is refusal plain_is = record {
      carried_out = λ s h q e none. (
        refl,
        rw (same_sapi sapi p q is e) (block_is ∙ (λ i. with_layer1 ((on ∙ (read.represents s h).link0.endpoint.address.channel) i)
            layer1 (
            (plain_is s (read.represents s h) ∙ ap (λ (x : Channel). octets_of x (unit_frame p message s))
            (read.represents s h).link0.endpoint.address.channel) i))),
      );
      refused = λ s h q e other refuses. (let f = refusal s (read.represents s h) in
          absurd (none_some other (f ∙ (rw (same_sapi sapi p q is e) at refuses))));
      no_such_sapi = λ some none. absurd (known sapi p is read none);
      invalid_struct = λ none. absurd (none read.some);
      unchanged = λ other. absurd (other refl);
    }
      where
        none_some : (r : Refused) → None ≡ Some r → ⊥
        none_some r e = absurd cc

pub is_set : (t : ℕ) → t ≢ 0 → (t == 0) ≡ false
is_set t h = grind (arith, nat_tests)

-- ## Messages that are not acknowledged

pub below : (i n : ℕ) → true ≡ nat_lt i n → i < n
below i n h = grind (arith, nat_tests)

pub not_below : (i n : ℕ) → false ≡ nat_lt i n → n ≤ i
not_below i n h = grind (arith, nat_tests)

module _ {c : CDataLink} {m : DataLink} (sapi : ℕ) (p : Sapi) (is : Some p ≡ sapi_of sapi) (read : IsRead c m) (index : ℕ)
    (held : List MessageBuffer)
    (are : (s : DataLinkState) → D.Represents m s → map octets_in_buffer held ≡ unacked_messages (link_with_sapi p s).endpoint)
    (old : MessageBuffer) where
  found : (s : DataLinkState) → RepresentsDataLink c s → (q : Sapi) → Some q ≡ sapi_of sapi → (b : Option MessageBuffer) →
      slice_get held index ≡ b →
      slice_get (unacked_messages (link_with_sapi q s).endpoint) index ≡ option_map octets_in_buffer b
  found s h q e b g =
      rw (same_sapi sapi p q is e, sym (are s (read.represents s h)))
      (slice_get-map octets_in_buffer held index ∙ ap (option_map octets_in_buffer) g)

  pub unacked_written : (b : MessageBuffer) (new : MessageBuffer) → slice_get held index ≡ Some b →
      new ≡ message_buffer (octets_in_buffer b) → DataLinkHasUnacked sapi index 0 c old new
  unacked_written b new g wrote = record {
    written = λ s h q e message at. (refl, wrote ∙ ap message_buffer (same_message (sym (found s h q e (Some b) g) ∙ at)));
    no_more = λ s h q e none. absurd (some_none (sym (found s h q e (Some b) g) ∙ none));
    no_such_sapi = λ some none. absurd (known sapi p is read none);
    invalid_struct = λ none. absurd (none read.some);
    unchanged = λ other. absurd (other refl);
  }
    where
      same_message : {x y : Message} → Some x ≡ Some y → x ≡ y
      same_message e = cc

      some_none : {x : Message} → Some x ≡ None → ⊥
      some_none e = absurd cc

  pub unacked_none : slice_get held index ≡ None → DataLinkHasUnacked sapi index 4 c old old
  unacked_none g = record {
    written = λ s h q e message at. absurd (none_some (sym (found s h q e None g) ∙ at));
    no_more = λ s h q e none. refl;
    no_such_sapi = λ some none. absurd (known sapi p is read none);
    invalid_struct = λ none. absurd (none read.some);
    unchanged = λ other. refl;
  }
    where
      none_some : {x : Message} → None ≡ Some x → ⊥
      none_some e = absurd cc
