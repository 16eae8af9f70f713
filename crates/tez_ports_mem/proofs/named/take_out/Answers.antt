use Rattle.std.proofs.Common.{◌∙◌, sym, ap, option_map, position}
use Rattle.tez_ports.specs.Content.{without}
use Rattle.tez_ports_mem.proofs.Entries.{taken, none_found, has_name}
use Rattle.tez_ports_mem.proofs.named.take_out.Goals as goal

pub returns-in-Some-clause-found : goal.returns-in-Some-clause-found
returns-in-Some-clause-found c =
    let name = c.args.name.now in let entries = c.args.entries.now.items in
    let place = sym (ap (position (has_name name)) c.deref.ensures.value) ∙ sym c.place_of.ensures ∙ c.in-Some.is in
    (taken name entries c.in-Some.place c.remove-entry.result place c.remove-entry.ensures.value).0

pub returns-in-Some-clause-rest : goal.returns-in-Some-clause-rest
returns-in-Some-clause-rest c =
    let name = c.args.name.now in let entries = c.args.entries.now.items in
    let place = sym (ap (position (has_name name)) c.deref.ensures.value) ∙ sym c.place_of.ensures ∙ c.in-Some.is in
    c.remove_all.ensures.rest ∙ ap (without name) c.remove-entry.ensures.items
    ∙ (taken name entries c.in-Some.place c.remove-entry.result place c.remove-entry.ensures.value).1

pub returns-in-None-clause-found : goal.returns-in-None-clause-found
returns-in-None-clause-found c =
    let name = c.args.name.now in let entries = c.args.entries.now.items in
    let place = sym (ap (position (has_name name)) c.deref.ensures.value) ∙ sym c.place_of.ensures ∙ c.in-None.is in
    sym (ap (option_map (λ bytes. (name, bytes))) (none_found name entries place).0)

pub returns-in-None-clause-rest : goal.returns-in-None-clause-rest
returns-in-None-clause-rest c =
    let name = c.args.name.now in let entries = c.args.entries.now.items in
    let place = sym (ap (position (has_name name)) c.deref.ensures.value) ∙ sym c.place_of.ensures ∙ c.in-None.is in
    sym (none_found name entries place).1
