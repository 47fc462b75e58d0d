use Rattle.std.proofs.Common.{subst}
use Rattle.std.specs.Net.Addr.{ipv4_octets, ipv6_segments}
use Rattle.std.specs.Net.Grammar.{IsIpText}
use Rattle.std.specs.declared.net.ip_addr.IpAddr.TheVariants.{V4, V6}
use Rattle.dav_login_core.proofs.NetworkLemmas.{ipv6_is_no_ipv4, no_ipv4, no_ipv6, whole_ipv4, whole_ipv6}
use Rattle.dav_login_core.proofs.networks.network_in.Goals as goal

pub returns-in-Ok-V4 : goal.returns-in-Ok-V4
returns-in-Ok-V4 c =
    let text = c.args.text.now in
    let read = whole_ipv4 text (ipv4_octets c.in-Ok-V4.ip) (subst (IsIpText text) c.in-Ok-V4.field-0-is c.in-Ok-V4.ensures) in
    rw read (rw c.octets.ensures)

pub returns-in-Ok-V6 : goal.returns-in-Ok-V6
returns-in-Ok-V6 c =
    let text = c.args.text.now in
    let spelled : IsIpText text (V6 c.in-Ok-V6.ip) = subst (IsIpText text) c.in-Ok-V6.field-0-is c.in-Ok-V6.ensures in
    let none = ipv6_is_no_ipv4 text (ipv6_segments c.in-Ok-V6.ip) spelled in
    let read = whole_ipv6 text (ipv6_segments c.in-Ok-V6.ip) spelled in
    rw (none, read) c.network_of_ipv6.ensures

pub returns-in-Err : goal.returns-in-Err
returns-in-Err c =
    let text = c.args.text.now in
    let none = no_ipv4 text (λ octets spelled. c.in-Err.ensures (V4 (record { octets = octets })) spelled) in
    let neither = no_ipv6 text (λ segments spelled. c.in-Err.ensures (V6 (record { segments = segments })) spelled) in
    rw (none, neither)
