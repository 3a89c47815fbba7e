-- The frame of a traffic burst, checked for each burst of a multiframe.
use Rattle.{
  bit_blocks.proofs.Lemmas.{at_passes_below, passes_below},
  std.proofs.Common.{Bool, ap, arith, eqb, true, ℕ, ◌%◌, ◌*◌, ◌+◌, ◌/◌, ◌<◌, ◌≡◌},
  std.{proofs.lemmas.Bool.Decides.Decides-eqb, specs.Prelude.slice_index},
  tdma.specs.{
    Traffic.{channels_in_slot, subchannel_of, traffic_frames},
    declared.traffic.TrafficChannel.{TrafficChannel, TheVariants.{FullRate, HalfRate0, HalfRate1}},
  },
  um_traffic.specs.Receivers.{bursts_in_multiframe, frame_of_burst},
}

abbrev is_by_rule : TrafficChannel → ℕ → Bool
is_by_rule c n =
    let place = n * channels_in_slot c + subchannel_of c in eqb (place + place / 12) (slice_index (traffic_frames c) n)

every_full : passes_below (is_by_rule FullRate) 24 ≡ true
unfolding passes_below
every_full = cc

every_half_0 : passes_below (is_by_rule HalfRate0) 12 ≡ true
unfolding passes_below
every_half_0 = cc

every_half_1 : passes_below (is_by_rule HalfRate1) 12 ≡ true
unfolding passes_below
every_half_1 = cc

by_rule : (c : TrafficChannel) (n : ℕ) → n < bursts_in_multiframe c → is_by_rule c n ≡ true
by_rule FullRate n lt = at_passes_below (is_by_rule FullRate) 24 every_full n lt
by_rule HalfRate0 n lt = at_passes_below (is_by_rule HalfRate0) 12 every_half_0 n lt
by_rule HalfRate1 n lt = at_passes_below (is_by_rule HalfRate1) 12 every_half_1 n lt

below : (c : TrafficChannel) (n : ℕ) → n % bursts_in_multiframe c < bursts_in_multiframe c
below FullRate n = omega arith
below HalfRate0 n = omega arith
below HalfRate1 n = omega arith

pub frame_by_rule : (c : TrafficChannel) (number : ℕ) →
    let place = number % bursts_in_multiframe c * channels_in_slot c + subchannel_of c in
    number / bursts_in_multiframe c * 26 + (place + place / 12) ≡ frame_of_burst c number
frame_by_rule c number =
    ap (λ n. number / bursts_in_multiframe c * 26 + n)
    ((Decides-eqb _ _).0 (by_rule c (number % bursts_in_multiframe c) (below c number)))
