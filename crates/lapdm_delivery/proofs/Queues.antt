-- Frames in transit of one link: what is on the air and what waits is a subsequence of a queue of `lapdm_link`, but for DM frames
-- with which the link refuses a SABM: each stands for a DISC there.
use Rattle.{
  std.proofs.Math.Bool.and-false,
  lapdm_link.proofs.{
    Lemmas.{◌≡◌, refl, arith, ◌++◌, Bool, true, false, List, [], ◌∷◌, append_assoc, append-nil},
    Lemmas.{if◌then◌else◌, Some, cons_option, Frame, Outcome, AllOf, ap, sym, ◌∙◌},
  },
  lapdm_end.specs.lapdm_window.Calls.sabm,
  lapdm_frame.specs.Content.{Dm, Disc},
  lapdm_datalink.{
    specs.Links.{LinkState, sabm_goes_first, is_opening, is_awaiting_kind, with_frame, with_frames, with_outcome},
    proofs.Lemmas.endpoint_with_frames,
  },
}

-- ---- subsequences

-- a frame on the air stands for one in the queue: that frame, or a DISC if it is a DM with F = 1
pub data StandsFor (f queued : Frame) : Type 0 where
  itself : f ≡ queued → StandsFor f queued
  dm_for_disc : (p : Bool) → f.sapi ≡ queued.sapi → f.content ≡ Dm true → queued.content ≡ Disc p → StandsFor f queued

stands-trans : {f g h : Frame} → StandsFor f g → StandsFor g h → StandsFor f h
stands-trans (itself same) t = rw same t
stands-trans (dm_for_disc p sapi dm disc) (itself same) =
    dm_for_disc p (sapi ∙ ap (λ (x : Frame). x.sapi) same) dm (sym (ap (λ (x : Frame). x.content) same) ∙ disc)
stands-trans (dm_for_disc p sapi dm disc) (dm_for_disc q sapi' dm' disc') = absurd (cc (sym disc ∙ dm'))

-- each of these frames stands for one in the queue, in the same order
pub data IsCovered : List Frame → List Frame → Type 0 where
  empty : IsCovered [] []
  kept : {x y : Frame} {xs ys : List Frame} → StandsFor x y → IsCovered xs ys → IsCovered (x ∷ xs) (y ∷ ys)
  dropped : {y : Frame} {xs ys : List Frame} → IsCovered xs ys → IsCovered xs (y ∷ ys)

pub none : (ys : List Frame) → IsCovered [] ys
none [] = empty
none (y ∷ ys) = dropped (none ys)

pub all : (xs : List Frame) → IsCovered xs xs
all [] = empty
all (x ∷ xs) = kept (itself refl) (all xs)

front : (xs ys : List Frame) → IsCovered xs (xs ++ ys)
front [] ys = none ys
front (x ∷ xs) ys = kept (itself refl) (front xs ys)

pub append : {xs ys us vs : List Frame} → IsCovered xs ys → IsCovered us vs → IsCovered (xs ++ us) (ys ++ vs)
append empty g = g
append (kept t h) g = kept t (append h g)
append (dropped h) g = dropped (append h g)

trans : {xs ys zs : List Frame} → IsCovered xs ys → IsCovered ys zs → IsCovered xs zs
trans h empty = h
trans {xs = x ∷ xs} (kept t h) (kept u g) = kept (stands-trans t u) (trans {xs = xs} h g)
trans (dropped h) (kept u g) = dropped (trans h g)
trans h (dropped g) = dropped (trans h g)

-- fewer frames wait
pub fewer : (air : List Frame) {xs ys q : List Frame} → IsCovered xs ys → IsCovered (air ++ ys) q → IsCovered (air ++ xs) q
fewer air h g = trans (append (all air) h) g

-- nothing waits
pub on_air : (air ys : List Frame) {q : List Frame} → IsCovered (air ++ ys) q → IsCovered air q
on_air air ys g = trans (front air ys) g

-- ---- what waits at a link

-- the SABM that goes before the answer, if the link has not sent it yet
abbrev pub unsent : LinkState → List Frame
unsent l = if sabm_goes_first l then sabm l.endpoint ∷ [] else []

abbrev pub owed : LinkState → List Frame
owed l = cons_option l.answer []

-- what a link will send of what stands in its queue; any other frame it makes anew
abbrev pub pending : LinkState → List Frame
pending l = unsent l ++ owed l

pub unsent-not : (l : LinkState) → sabm_goes_first l ≡ false → unsent l ≡ []
unsent-not l e = rw e refl

pub unsent-sent : (l : LinkState) → l.is_sent ≡ true → unsent l ≡ []
unsent-sent l e = unsent-not l (rw e (and-false _))

pub unsent-elsewhere : (l : LinkState) → is_opening l.endpoint.state ≡ false → unsent l ≡ []
unsent-elsewhere l e = unsent-not l (grind (arith, e))

-- ---- what the endpoint returns waits, and stands at the end of the queue

-- the step leaves the link outside Opening, or as it was with answers alone
pub data IsNoOpening (l : LinkState) (o : Outcome) : Type 0 where
  elsewhere : is_opening o.new_state.state ≡ false → IsNoOpening l o
  answers : o.new_state ≡ l.endpoint → AllOf (λ f. is_awaiting_kind f.content ≡ false) o.frames → IsNoOpening l o

one_on : (fs : List Frame) (f : Frame) (q : List Frame) → (q ++ f ∷ []) ++ fs ≡ q ++ f ∷ fs
one_on fs f q = append_assoc q (f ∷ []) fs

module _ (air : List Frame) where
  owed-frames : (fs : List Frame) (l : LinkState) (q : List Frame) → IsCovered (air ++ owed l) q →
      IsCovered (air ++ owed (with_frames fs l)) (q ++ fs)
  owed-frames [] l q h = rw append-nil h
  owed-frames (f ∷ fs) l q h = rw (one_on fs f q) at
      (owed-frames fs (with_frame f l) (q ++ f ∷ []) (by_kind (is_awaiting_kind f.content)))
    where
      by_kind : (b : Bool) →
          IsCovered (air ++ owed (if b then record l { is_sent = false; clock = 0 } else record l { answer = Some f })) (q ++ f ∷ [])
      by_kind true = rw append-nil at (append h (none (f ∷ [])))
      by_kind false = append (on_air air (owed l) h) (all (f ∷ []))

  pending-answers : (fs : List Frame) (l : LinkState) (q : List Frame) → AllOf (λ f. is_awaiting_kind f.content ≡ false) fs →
      IsCovered (air ++ pending l) q → IsCovered (air ++ pending (with_frames fs l)) (q ++ fs)
  pending-answers [] l q g h = rw append-nil h
  pending-answers (f ∷ fs) l q g h =
      let m : LinkState = record l { answer = Some f } in
      let k : IsCovered (air ++ unsent l) q = fewer air (rw append-nil at (append (all (unsent l)) (none (owed l)))) h in
      let now : IsCovered (air ++ pending m) (q ++ f ∷ []) = rw append_assoc at (append k (all (f ∷ []))) in
      let later : IsCovered (air ++ pending (with_frames fs m)) (q ++ f ∷ fs) =
      rw (one_on fs f q) at (pending-answers fs m (q ++ f ∷ []) g.1 now) in
      by_kind (is_awaiting_kind f.content) g.0 later
    where
      by_kind : (b : Bool) → b ≡ false →
          IsCovered (air ++ pending (with_frames fs (record l { answer = Some f }))) (q ++ f ∷ fs) →
          IsCovered (air ++ pending (with_frames fs (if b then record l { is_sent = false; clock = 0 } else record l { answer = Some f })))
          (q ++ f ∷ fs)
      by_kind true e later = absurd cc
      by_kind false e later = later

  owed-outcome : (o : Outcome) (l : LinkState) (q : List Frame) → is_opening o.new_state.state ≡ false →
      IsCovered (air ++ pending l) q → IsCovered (air ++ pending (with_outcome o l)) (q ++ o.frames)
  owed-outcome o l q e h =
      let m : LinkState = record l { endpoint = o.new_state } in
      let z : LinkState = with_outcome o l in
      let none_unsent : unsent z ≡ [] = unsent-elsewhere z (rw (endpoint_with_frames o.frames m) e) in
      let owing : IsCovered (air ++ owed m) q = fewer air (append (none (unsent l)) (all (owed l))) h in
      rw none_unsent (owed-frames o.frames m q owing)

  pub pending-outcome : (o : Outcome) (l : LinkState) (q : List Frame) → IsNoOpening l o → IsCovered (air ++ pending l) q →
      IsCovered (air ++ pending (with_outcome o l)) (q ++ o.frames)
  pending-outcome o l q (elsewhere e) h = owed-outcome o l q e h
  pending-outcome o l q (answers same g) h =
      pending-answers o.frames (record l { endpoint = o.new_state }) q g (rw same h)
