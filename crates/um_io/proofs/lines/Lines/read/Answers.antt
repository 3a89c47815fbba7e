use Rattle.{
  std.proofs.Common.{◌≡◌, ◌-◌, length, take, drop, ap, arith},
  um_io.{specs.{Buffer.octets_of, Reading.{ReaderState, input_limit}}, proofs.Reader.length-cut},
}
use Rattle.um_io.proofs.lines.Lines.read.Goals as goal

pub read-requires : goal.read-requires
read-requires g c =
    let octets = octets_of c.self.inside.buffer in
    let limit = input_limit - c.self.inside.octet_count in
    let whole = length-cut octets limit in
    let held : length (take limit octets) ≡ length c.args.self.now.held = ap (λ (r : ReaderState). length r.held) c.self.view_is in
    let past : length (drop limit octets) ≡ length c.args.self.now.excess = ap (λ (r : ReaderState). length r.excess) c.self.view_is in
    let none : length c.args.self.now.excess ≡ 0 = ap length c.requires.excess in
    record { space = omega (arith, c.requires.in_limit) }
