-- The tables of the channels: the computed schedule agrees with them, checked at each of 102 frames.
use Rattle.{
  bit_blocks.proofs.Lemmas.{at_passes_below, both_true, passes_below},
  std.proofs.Common.{Bool, Option, None, Some, ap, eqb, false, refl, sym, true, ℕ, cond, ◌%◌, ◌&&◌, ◌+◌, ◌<◌, ◌∙◌},
  std.proofs.{Common.◌≡◌, lemmas.Bool.Decides.Decides-eqb},
  tdma.specs.{
    Channels.position_of,
    Uplink.uplink_after,
    declared.channels.{Combination.{Combination, TheVariants.{BcchCcch, BcchCcchSdcch4, Sdcch8}}, Direction.TheVariants.{Downlink, Uplink}},
    declared.{channels.Channel.{Channel, TheVariants.{Sdcch, Sacch, Bcch, Ccch, Fcch, Sch, Rach}}, schedule.Position.Position},
  },
}

-- ## Same: a test whether two positions are the same.

abbrev pub channel_number : Channel → ℕ
channel_number Sdcch = 0
channel_number Sacch = 1
channel_number Bcch = 2
channel_number Ccch = 3
channel_number Fcch = 4
channel_number Sch = 5
channel_number Rach = 6

abbrev channel_at : ℕ → Channel
channel_at n =
    cond (eqb n 0) Sdcch (cond (eqb n 1) Sacch (cond (eqb n 2) Bcch (cond (eqb n 3) Ccch (cond (eqb n 4) Fcch (cond (eqb n 5) Sch Rach)))))

channel_at-number : (c : Channel) → channel_at (channel_number c) ≡ c
channel_at-number Sdcch = refl
channel_at-number Sacch = refl
channel_at-number Bcch = refl
channel_at-number Ccch = refl
channel_at-number Fcch = refl
channel_at-number Sch = refl
channel_at-number Rach = refl

abbrev pub is_same : Option Position → Option Position → Bool
is_same None None = true
is_same (Some p) (Some q) =
    eqb (channel_number p.channel) (channel_number q.channel) && (eqb p.subchannel q.subchannel && eqb p.burst q.burst)
is_same p q = false

pub same_positions : (p q : Option Position) → is_same p q ≡ true → p ≡ q
same_positions None None h = refl
same_positions (Some p) (Some q) h =
    let c : Bool = eqb (channel_number p.channel) (channel_number q.channel) in
    let s : Bool = eqb p.subchannel q.subchannel in
    let b : Bool = eqb p.burst q.burst in
    let one = both_true c (s && b) h in
    let two = both_true s b one.1 in
    let channel : p.channel ≡ q.channel =
    sym (channel_at-number p.channel) ∙ ap channel_at ((Decides-eqb _ _).0 one.0) ∙ channel_at-number q.channel in
    let subchannel : p.subchannel ≡ q.subchannel = (Decides-eqb _ _).0 two.0 in
    let burst : p.burst ≡ q.burst = (Decides-eqb _ _).0 two.1 in
    ap Some (same_fields p.channel q.channel p.subchannel q.subchannel p.burst q.burst channel subchannel burst)
  where
    same_fields : (c c' : Channel) (s s' b b' : ℕ) → c ≡ c' → s ≡ s' → b ≡ b' →
        let a : Position = record { channel = c; subchannel = s; burst = b } in
        let a' : Position = record { channel = c'; subchannel = s'; burst = b' } in a ≡ a'
    same_fields c c' s s' b b' hc hs hb = cc
same_positions None (Some q) h = cc
same_positions (Some p) None h = cc

-- ## Uplink: fifteen frames after the downlink.

abbrev is_turned : (c : Combination) (rach : Bool) → ℕ → Bool
is_turned c rach n = is_same (position_of c Uplink 0 n) (uplink_after rach (position_of c Downlink 0 ((n + 87) % 102)))

every_iv_is_turned : passes_below (is_turned BcchCcch true) 102 ≡ true
unfolding passes_below
every_iv_is_turned = cc

every_v_is_turned : passes_below (is_turned BcchCcchSdcch4 true) 102 ≡ true
unfolding passes_below
every_v_is_turned = cc

every_vii_is_turned : passes_below (is_turned Sdcch8 false) 102 ≡ true
unfolding passes_below
every_vii_is_turned = cc

pub iv_uplink : (n : ℕ) → n < 102 → position_of BcchCcch Uplink 0 n ≡ uplink_after true
    (position_of BcchCcch Downlink 0 ((n + 87) % 102))
iv_uplink n h = same_positions _ _ (at_passes_below (is_turned BcchCcch true) 102 every_iv_is_turned n h)

pub v_uplink : (n : ℕ) → n < 102 →
    position_of BcchCcchSdcch4 Uplink 0 n ≡ uplink_after true (position_of BcchCcchSdcch4 Downlink 0 ((n + 87) % 102))
v_uplink n h = same_positions _ _ (at_passes_below (is_turned BcchCcchSdcch4 true) 102 every_v_is_turned n h)

pub vii_uplink : (n : ℕ) → n < 102 → position_of Sdcch8 Uplink 0 n ≡ uplink_after false
    (position_of Sdcch8 Downlink 0 ((n + 87) % 102))
vii_uplink n h = same_positions _ _ (at_passes_below (is_turned Sdcch8 false) 102 every_vii_is_turned n h)
