use Rattle.cx_includes.proofs.Named.{own_index, other_indices}
use Rattle.cx_includes.proofs.names.Names.add.Goals as goal

pub returns : goal.returns
returns c =
    let put = c.in_ok-insert.ensures.updates in
    record {
      holds = own_index (λ k. k.items) c.insert.new.self.entries c.in_ok-key.key c.args.name.now c.args.index c.in_ok-key.ensures.items put.1;
      others = other_indices (λ k. k.items) c.args.self.now.indices.entries c.insert.new.self.entries c.in_ok-key.key c.args.name.now c.in_ok-key.ensures.items put.3;
    }
