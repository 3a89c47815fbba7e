-- An acknowledgement that arrives ends the wait, and an I frame that arrives is answered in the slot.
use Rattle.{
  lapdm_progress.{
    proofs.{Link.{with_message, reply_with, over_calls, is_i, is_rr, ns_in}, Steps.{acked, issued, Good, taken, by_nr_i, by_nr_rr}},
    specs.Channels.{Pair, Turn, after_slot, after_arriving, after_calls, IsUse},
  },
  lapdm_datalink.{
    specs.{Links.{is_due, LinkState, is_final_dm, is_unnumbered_answer, nr_as_taken}, Slots.{nr_in, took}},
    proofs.Answering.{Says, Carries, carries, says_took, stays_open},
  },
  lapdm_end.specs.lapdm_window.{
    Ends.{sapi_number, Role, vr, vs, awaits_ack, command_cr},
    declared.State.TheVariants.Open,
    segmenting.Segments.Segment,
    Tables.TakesIFrame,
    Calls.Call,
  },
  std.{
    specs.Prelude.{◌≡◌, ◌≢◌, ℕ, Bool, true, false, ◌||◌, nat_eq, List, Some, None, All},
    proofs.Common.{inl, inr, arith, refl, ap, ◌∙◌},
  },
  lapdm_frame.specs.Content.{Content, I, Rr, Rej, Dm, Frame},
}

numbered : (c : Content) (k : ℕ) → nr_in c ≡ Some k → is_unnumbered_answer c ≡ false
numbered (I ns nr p more info) k h = refl
numbered (Rr nr p) k h = refl
numbered (Rej nr p) k h = refl
numbered other k h = absurd cc

no_dm : (c : Content) → is_unnumbered_answer c ≡ false → is_final_dm c ≡ false
no_dm (Dm f) h = absurd cc
no_dm other h = refl

frame_is : (f : Frame) (l : LinkState) → is_unnumbered_answer f.content ≡ false →
    after_arriving (Some f) l ≡ taken (reply_with f.cr l f.content) l
frame_is f l h = rw (h, no_dm f.content h) refl

same_nr : (nr k : ℕ) → Some nr ≡ Some k → nat_eq nr k ≡ true
same_nr nr k h = grind arith

-- ---- an acknowledgement

module _ (cr : Bool) (l : LinkState) (g : Good l) (none : l.answer ≡ None) (open_ : l.endpoint.state ≡ Open)
    (w : awaits_ack l.endpoint ≡ true) (s : l.is_sent ≡ true)
  where
    nr_same : (nr : ℕ) → Some nr ≡ Some (vs l.endpoint) → nat_eq (nr_as_taken nr l) (vs l.endpoint) ≡ true
    nr_same nr h = rw s (same_nr _ _ h)

    acks : (c : Content) → ((ns : ℕ) → ns_in c ≡ Some ns → cr ≢ command_cr l.endpoint.role) →
        nr_in c ≡ Some (vs l.endpoint) →
        acked (taken (reply_with cr l c) l) ≡ issued l
    acks (I ns nr p more info) command h =
        rw (is_i cr l ns nr p more info open_ (command ns refl))
        (by_nr_i l g none ns (nr_as_taken nr l) p (info, more) (nr_same nr h) w)
    acks (Rr nr p) command h =
        rw ((is_rr cr l nr p open_).1) (by_nr_rr l g none (nr_as_taken nr l) _ (nr_same nr h) w)
    acks (Rej nr p) command h =
        rw ((is_rr cr l nr p open_).1) (by_nr_rr l g none (nr_as_taken nr l) _ (nr_same nr h) w)
    acks other command h = absurd cc

pub gets_ack : (f : Frame) (l : LinkState) → Good l → l.answer ≡ None → l.endpoint.state ≡ Open →
    f.sapi ≡ sapi_number l.endpoint.sapi → ((ns : ℕ) → ns_in f.content ≡ Some ns → f.cr ≢ command_cr l.endpoint.role) →
    awaits_ack l.endpoint ≡ true → l.is_sent ≡ true →
    nr_in f.content ≡ Some (vs l.endpoint) → acked (after_arriving (Some f) l) ≡ issued l
gets_ack f l g none o z command w s h =
    ap acked (frame_is f l (numbered f.content _ h)) ∙ acks f.cr l g none o w s f.content command h

-- ---- an I frame

pub i_arrives : (f : Frame) (l : LinkState) (ns nr : ℕ) (p more : Bool) (info : List ℕ) → f.content ≡ I ns nr p more info →
    l.endpoint.state ≡ Open → f.sapi ≡ sapi_number l.endpoint.sapi → f.cr ≢ command_cr l.endpoint.role →
    after_arriving (Some f) l ≡ took ns (nr_as_taken nr l) p (info, more) l
i_arrives f l ns nr p more info e o s c =
    let h : is_unnumbered_answer f.content ≡ false = ap is_unnumbered_answer e in
    let t : reply_with f.cr l f.content ≡ TakesIFrame ns (nr_as_taken nr l) p (info, more) =
    ap (λ k. reply_with f.cr l k) e ∙ is_i f.cr l ns nr p more info o c in
    frame_is f l h ∙ ap (λ r. taken r l) t

due_on : (held : Bool) (m : LinkState) → is_due m ≡ true → is_due (after_slot held m) ≡ true
due_on held m h = grind (arith, h)

-- a slot that passes changes nothing of what the link says
says_on : (held : Bool) (m : LinkState) → Says m → Says (after_slot held m)
says_on held m (inl x) = inl x
says_on held m (inr (a, b, c)) = inr (a, due_on held m b, c)

says_sends : (m : List ℕ) (l : LinkState) → l.endpoint.state ≡ Open → Says l → Says (with_message m l)
says_sends m l o (inl (f, a, b)) = inl (f, grind (arith, a), grind (arith, b))
says_sends m l o (inr (a, b, c)) = inr (grind (arith, a), grind (arith, b), grind (arith, c))

sends_open : (m : List ℕ) (l : LinkState) → l.endpoint.state ≡ Open → (with_message m l).endpoint.state ≡ Open
sends_open m l o = grind arith

abbrev OpenAndSays : LinkState → Type 0
OpenAndSays l = (l.endpoint.state ≡ Open) × Says l

says_calls : (w : Pair) (role : Role) (cs : List Call) (l : LinkState) → All (IsUse w role) cs → OpenAndSays l →
    OpenAndSays (after_calls cs l)
says_calls w role = over_calls w role (λ l m. OpenAndSays l → OpenAndSays m) (λ l h. h) (λ l m k a b h. b (a h))
    (λ m l e h. (sends_open m l h.0, says_sends m l h.0 h.1)) (λ info l q i may h. absurd (grind (arith, h.0, i)))

-- the slot in which an I frame arrives that is in sequence or polls: it carries an N(R) equal to V(R), or the link is given up in it
pub answers : (w : Pair) (role : Role) (t : Turn) (ns nr : ℕ) (p : Bool) (s : Segment) (l : LinkState) → All (IsUse w role) t.calls →
    l.endpoint.state ≡ Open → l.answer ≡ None → (nat_eq ns (vr l.endpoint) || p) ≡ true →
    Carries (after_slot t.is_held (after_calls t.calls (took ns nr p s l)))
answers w role t ns nr p s l u o none k =
    let x = says_calls w role t.calls (took ns nr p s l) u (stays_open l o none ns nr p s, says_took l o none ns nr p s k) in
    let m = after_calls t.calls (took ns nr p s l) in
    carries (after_slot t.is_held m) x.0 (says_on t.is_held m x.1)
