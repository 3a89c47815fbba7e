-- Nothing acknowledges an I frame that waits for its slot.
use Rattle.{
  std.{specs.Prelude.{◌≡◌, ℕ, Bool, true, false, if◌then◌else◌}, proofs.Common.{arith, refl, ap, ◌∙◌}},
  lapdm_frame.specs.Content.{Content, I, Rr, Rej, Frame},
  lapdm_end.specs.lapdm_window.{
    declared.State.TheVariants.Open,
    segmenting.Segments.Segment,
    Ends.{EndpointState, sapi_number},
    Rules.{nr_acknowledges_segment, takes_i_frame},
    Tables.{outcome_of_reply, reply_to_frame},
  },
  lapdm_datalink.{
    specs.{
      Links.{LinkState, after_frame, for_frame, ignores, is_sabm, nr_as_taken, received_outcome, renewed_for, with_outcome},
      Unsent.{IsUnsent, AcknowledgesNothing},
    },
    proofs.Lemmas.endpoint_with_frames,
  },
}

taken_acks_nothing : (nr : ℕ) (l : LinkState) → IsUnsent l → nr_acknowledges_segment (nr_as_taken nr l) l.endpoint ≡ false
taken_acks_nothing nr l h = grind (arith, h.outstanding, h.unsent)

i_acks_nothing : (ns n : ℕ) (p : Bool) (s : Segment) (e : EndpointState) → nr_acknowledges_segment n e ≡ false →
    (takes_i_frame ns n p s e).new_state.acked_segments ≡ e.acked_segments
i_acks_nothing ns n p s e h = grind (arith, h)

-- an I frame and an RR with this N(R), as the endpoint takes them
module _ (n s : ℕ) (cr : Bool) (e : EndpointState) (none : nr_acknowledges_segment n e ≡ false) where
  abbrev replied : Content → EndpointState
  replied c = (outcome_of_reply (reply_to_frame (record { sapi = s; cr = cr; content = c }) e) e).new_state

  after_i : (ns : ℕ) (p : Bool) (segment : Segment) → (replied (I ns n p segment.1 segment.0)).acked_segments ≡ e.acked_segments
  after_i ns p segment = grind (arith, i_acks_nothing ns n p segment e none)

  after_rr : (p : Bool) → (replied (Rr n p)).acked_segments ≡ e.acked_segments
  after_rr p = grind (arith, none)

module _ (f : Frame) (l : LinkState) (h : IsUnsent l) (other : is_sabm f.content ≡ false) where
  same_link : renewed_for f l ≡ l
  same_link = grind (arith, other)

  same_frame : for_frame f l ≡ l
  same_frame = grind (arith, h.state)

  by_content : (c : Content) → is_sabm c ≡ false →
      (received_outcome (record f { content = c }) l).new_state.acked_segments ≡ l.endpoint.acked_segments
  by_content (I ns nr p more info) k =
      after_i (nr_as_taken nr l) (sapi_number l.endpoint.sapi) f.cr l.endpoint (taken_acks_nothing nr l h) ns p (info, more)
  by_content (Rr nr p) k =
      after_rr (nr_as_taken nr l) (sapi_number l.endpoint.sapi) f.cr l.endpoint (taken_acks_nothing nr l h) p
  by_content (Rej nr p) k =
      after_rr (nr_as_taken nr l) (sapi_number l.endpoint.sapi) f.cr l.endpoint (taken_acks_nothing nr l h) p
  by_content c k = grind (arith, h.state, k)

  pub acknowledges_nothing : AcknowledgesNothing f l
  acknowledges_nothing = ap (λ (m : LinkState). (after_frame f m).endpoint.acked_segments) same_link ∙ chosen (ignores f l)
    where
      chosen : (b : Bool) →
          (if b then l else (let m = for_frame f l in with_outcome (received_outcome f m) m)).endpoint.acked_segments
          ≡ l.endpoint.acked_segments
      chosen true = refl
      chosen false = ap (λ (m : LinkState). (with_outcome (received_outcome f m) m).endpoint.acked_segments) same_frame
          ∙ ap (λ (x : EndpointState). x.acked_segments)
          (endpoint_with_frames (received_outcome f l).frames (record l { endpoint = (received_outcome f l).new_state }))
          ∙ by_content f.content other
