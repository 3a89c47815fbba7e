-- The place of a frame of a block tells the place of the first frame of that block.
use Rattle.std.proofs.Common.{Bool, None, Option, Some, ap, cond, false, refl, sym, true, ℕ, ◌<◌, ◌∙◌, ◌≡◌}
use Rattle.tdma.proofs.Blocks.{first_of_block}
use Rattle.tdma.specs.declared.channels.Combination.{Combination}
use Rattle.tdma.specs.declared.channels.Direction.{Direction}
use Rattle.tdma.specs.declared.places.Place.{Place}
use Rattle.tdma.specs.Channels.{place_of}
use Rattle.um_slot.specs.Numbers.{is_channel_of_blocks}
use Rattle.um_slot.specs.Slots.{block_of_frame, block_place}

kept : (blocks : Bool) (q p : Place) → cond blocks (Some q) None ≡ Some p → (blocks ≡ true) × (Some q ≡ Some p)
kept true q p e = (refl, e)
kept false q p e = absurd cc

place_of_block : (found : Option Place) (p : Place) → block_place found ≡ Some p →
    (is_channel_of_blocks p.position.channel ≡ true) × (found ≡ Some p)
place_of_block None p e = absurd cc
place_of_block (Some q) p e =
    let both = kept (is_channel_of_blocks q.position.channel) q p e in
    let same : q ≡ p = cc in
    (ap (λ (x : Place). is_channel_of_blocks x.position.channel) (sym same) ∙ both.0, both.1)

pub first_place : (c : Combination) (d : Direction) (timeslot frame : ℕ) (p : Place) → timeslot < 8 →
    block_of_frame c d timeslot frame ≡ Some p →
    Some (record { first = p.first; position = record p.position { burst = 0 } }) ≡ block_of_frame c d timeslot p.first
first_place c d t f p slot found =
    let made : Place = record { first = p.first; position = record p.position { burst = 0 } } in
    let both = place_of_block (place_of c d t f) p found in
    let first : place_of c d t p.first ≡ Some made = first_of_block c d t f p slot both.1 in
    sym (ap block_place first ∙ ap (λ (b : Bool). cond b (Some made) None) both.0)
