-- Accepting a frame and then putting its burst is taking it.
use Rattle.{
  std.proofs.Common.{Err, List, None, Ok, Option, Some, refl, sym, ℕ, ℤ, ◌≡◌},
  tdma.specs.declared.places.Place.Place,
  um_slot.specs.Slots.{AcceptsWith, AreDone, Step, TakesWith, accept_frame, accepted_step, block_of_frame, take_at, take_frame},
  um_slot.specs.declared.{accepting.AcceptedFrame.AcceptedFrame, settings.Settings.Settings},
  um_slot.specs.declared.slots.{FinishedBlock.FinishedBlock, Refusal.Refusal, Slot.Slot},
}

done_kept : (place : Option Place) (came : ℕ) (burst : List ℤ) (x : Step) (f : FinishedBlock) → x.finished ≡ Some f →
    (take_at place came burst x).done ≡ x.done
done_kept None came burst x f e = refl
done_kept (Some p) came burst x f e = rw e refl

module _ (old : Slot) (frame came : ℕ) (burst : List ℤ) (done : List (List ℤ)) where
  pub took_err : (settings : Option Settings) (refusal : Option Refusal) (e : Refusal) (new : Slot) →
      AcceptsWith settings refusal old frame done (Err e) new →
      TakesWith settings refusal old frame came burst done (Err e) new done
  took_err None refusal e new h = (cc, h.1, refl)
  took_err (Some s) (Some r) e new h = (cc, h.1, refl)
  took_err (Some s) None e new h = absurd cc

  module _ (accepted : AcceptedFrame) (mid new : Slot) (result : Option FinishedBlock)
      (slot : (d : List (List ℤ)) → new ≡ (take_at accepted.place came burst (accepted_step accepted mid d)).slot)
      (finished : (d : List (List ℤ)) → result ≡ (take_at accepted.place came burst (accepted_step accepted mid d)).finished) where
    took : (settings : Option Settings) (refusal : Option Refusal) (d done' : List (List ℤ)) →
        ((d' : List (List ℤ)) → AreDone accepted.ended mid done d' → d ≡ d') →
        AcceptsWith settings refusal old frame done (Ok accepted) mid →
        done' ≡ (take_at accepted.place came burst (accepted_step accepted mid d)).done →
        TakesWith settings refusal old frame came burst done (Ok result) new done'
    took (Some s) None d done' only h is =
        let step : Step = accept_frame s frame old done in
        let place : accepted.place ≡ block_of_frame s.combination s.direction old.timeslot frame = cc in
        let ended : accepted.ended ≡ step.finished = cc in
        let same : d ≡ step.done = only step.done (rw ended h.2) in
        let taken : take_at accepted.place came burst (accepted_step accepted mid d) ≡ take_frame s frame came burst old done =
        rw (place, ended, h.1, same) refl in
        (rw (finished d, taken) refl, rw (slot d, taken) refl, rw (is, taken) refl)
    took settings refusal d done' only h is = absurd cc

    pub took_ended : (settings : Option Settings) (refusal : Option Refusal) (f : FinishedBlock) → accepted.ended ≡ Some f →
        AcceptsWith settings refusal old frame done (Ok accepted) mid →
        TakesWith settings refusal old frame came burst done (Ok result) new mid.bursts
    took_ended settings refusal f e h =
        took settings refusal mid.bursts mid.bursts (λ d' own. sym (rw e at own)) h
        (sym (done_kept accepted.place came burst (accepted_step accepted mid mid.bursts) f e))

    pub took_none : (settings : Option Settings) (refusal : Option Refusal) (done' : List (List ℤ)) → accepted.ended ≡ None →
        AcceptsWith settings refusal old frame done (Ok accepted) mid →
        done' ≡ (take_at accepted.place came burst (accepted_step accepted mid done)).done →
        TakesWith settings refusal old frame came burst done (Ok result) new done'
    took_none settings refusal done' e h is = took settings refusal done done' (λ d' own. sym (rw e at own)) h is
